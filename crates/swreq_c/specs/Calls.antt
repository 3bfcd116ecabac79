-- What a call from C says and answers.
use Rattle.std.specs.Prelude.{◌≡◌, ◌≢◌, ◌==◌, ◌⊎◌, ℕ, List, [], ◌++◌, length, take, drop, Option, Some, None}
use Rattle.std.specs.List.{slice_split}
use Rattle.std.specs.Str.{IsUtf8}
use Rattle.swreq_print.specs.Names.{Text}
use Rattle.swreq_top.specs.Contract.{IsRun}
use Rattle.swreq_top.specs.Run.{Run}

-- what stands between zero bytes
abbrev pub pieces : Text → List Text
pieces bytes = slice_split (λ b. b == 0) bytes

-- The words that a caller's bytes say: those between zero bytes, and none where the bytes are no UTF-8.
abbrev pub AreWords : Text → List Text → Type 0
AreWords bytes words = (IsUtf8 bytes × (words ≡ pieces bytes)) ⊎ ((IsUtf8 bytes → ⊥) × (words ≡ []))

-- The run of the program with these words over this text, of which that is left, which has printed this and ends with this status. No
-- stream of it fails, and nothing watches it.
abbrev pub run_in_memory : (words : List Text) (text : Text) (rest : Option Text) (printed : Text) → ℕ → Run
run_in_memory words text rest printed status = record {
  words = words;
  before = record { left = Some text; read_faults = 0; taken = Some []; write_faults = 0; told = None };
  after = record { left = rest; read_faults = 0; taken = Some printed; write_faults = 0; told = None };
  status = status;
}

-- The program, run with these words over this text, ends with this status and has printed this.
pub record HasRun (words : List Text) (text : Text) (status : ℕ) (printed : Text) : Type 0 where
  pub rest : Option Text
  pub run : IsRun (run_in_memory words text rest printed status)
  pub no_fault : (status ≢ 4) × (status ≢ 5)

-- A buffer once bytes are put into it: as many of the first ones as it has room for, and after them what stood there.
abbrev pub put_into : Text → Text → Text
put_into buffer bytes = take (length buffer) bytes ++ drop (length bytes) buffer

-- A call answers what the program does with its words over its text: the status, how many bytes are printed, and in the buffer as many of
-- them as it has room for.
pub record IsAnswer (words text before after : Text) (status count : ℕ) : Type 0 where
  pub printed : Text
  pub ran : (said : List Text) → AreWords words said → HasRun said text status printed
  pub counted : count ≡ length printed
  pub handed : after ≡ put_into before printed
