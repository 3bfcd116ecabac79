-- What holds along the list of all commands holds of each command.
use Rattle.std.proofs.Common.{◌≡◌, ap, get_or, map}
use Rattle.swreq_words.specs.declared.command.Command.{Command}
use Rattle.swreq_words.specs.declared.command.Command.TheVariants.{Answer, Signatures, Rules, Gen, Explain, Verify, Paths, Calls, Requirements}
use Rattle.swreq_words.specs.declared.command.TheConstants.{COMMANDS}

-- the first of all commands
abbrev pub first : Command
first = Answer

-- functions that are alike along the list are alike
pub alike : {A : Type 0} (f g : Command → A) → map f COMMANDS ≡ map g COMMANDS → (command : Command) → f command ≡ g command
alike f g same Answer = ap (λ xs. get_or xs 0 (f first)) same
alike f g same Signatures = ap (λ xs. get_or xs 1 (f first)) same
alike f g same Rules = ap (λ xs. get_or xs 2 (f first)) same
alike f g same Gen = ap (λ xs. get_or xs 3 (f first)) same
alike f g same Explain = ap (λ xs. get_or xs 4 (f first)) same
alike f g same Verify = ap (λ xs. get_or xs 5 (f first)) same
alike f g same Paths = ap (λ xs. get_or xs 6 (f first)) same
alike f g same Calls = ap (λ xs. get_or xs 7 (f first)) same
alike f g same Requirements = ap (λ xs. get_or xs 8 (f first)) same
