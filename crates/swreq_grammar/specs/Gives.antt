-- What a reading function answers.
use Rattle.std.specs.Prelude.{◌≡◌, Result, Ok, Err}
use Rattle.swreq_grammar.specs.declared.stop.Stop.{Stop}
use Rattle.swreq_grammar.specs.declared.stop.Stop.TheVariants.{Memory, Refused}
use Rattle.swreq_grammar.specs.Reader.{Fault}

abbrev pub Fails : {T L Y : Type 0} → Stop T L → Result Y (Fault T L) → Type 0
Fails Memory read = Unit {0}
Fails (Refused rest label) read = read ≡ Err (rest.now, label)

-- The answer, seen by the view, is what reading gives, unless memory ran out.
abbrev pub Gives : {T L X Y : Type 0} → (X → Y) → Result X (Stop T L) → Result Y (Fault T L) → Type 0
Gives view (Ok x) read = read ≡ Ok (view x)
Gives view (Err stop) read = Fails stop read
