pub mod Sectioned
pub mod ReadBack
pub mod BodyCut
pub mod Staying
pub mod Laid
pub mod Judged
pub mod InTurn
pub mod OneOutput
