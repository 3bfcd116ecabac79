pub mod Inside
pub mod Keys
pub mod Marks
pub mod Needed
pub mod Origins
pub mod UnderWay
pub mod Views
