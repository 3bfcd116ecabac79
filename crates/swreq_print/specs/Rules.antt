-- The texts of rules, and of the trace of a completion.
use Rattle.std.specs.Prelude.{ℕ, ◌+◌, List, [], ◌∷◌, ◌++◌, map, codes, decimal}
use Rattle.swreq_text.specs.Joined.{joined}
use Rattle.swreq_lexicon.specs.declared.pair.ProtocolName.{ProtocolName}
use Rattle.swreq_lexicon.specs.Views.{LexiconView}
use Rattle.swreq_rule.specs.declared.rules.Birth.{Birth}
use Rattle.swreq_rule.specs.declared.rules.Birth.TheVariants.{Given, Pair}
use Rattle.swreq_rule.specs.declared.rules.Rule.{Rule}
use Rattle.swreq_rule.specs.swreq_word.declared.symbols.Symbol.{Symbol}
use Rattle.swreq_rule.specs.swreq_word.declared.symbols.Symbol.TheVariants.{Proto, Member, Param, Name, Layout}
use Rattle.swreq_print.specs.Names.{Text, protocol_name, name_text, symbol_at}
use Rattle.swreq_print.specs.Types.{param_text}

-- `[P:A]`
abbrev pub member_text : LexiconView → ProtocolName → Text
member_text x d = codes "[" ++ (protocol_name x d.proto ++ (codes ":" ++ (name_text x d.name ++ codes "]")))

-- `[P]`, `[P:A]`, `τ_d_i`, `A` or `[layout: AnyObject]`
abbrev pub symbol_text : LexiconView → Symbol → Text
symbol_text x (Proto p) = codes "[" ++ (protocol_name x (record { rank = p }) ++ codes "]")
symbol_text x (Member m) = member_text x (symbol_at x m)
symbol_text x (Param d i) = param_text (record { depth = d; index = i })
symbol_text x (Name a) = name_text x (record { rank = a })
symbol_text x Layout = codes "[layout: AnyObject]"

abbrev pub word_text : LexiconView → List Symbol → Text
word_text x w = joined (codes ".") (map (symbol_text x) w)

-- `left => right`
abbrev pub rule_text : LexiconView → Rule → Text
rule_text x r = word_text x r.left ++ (codes " => " ++ word_text x r.right)

-- ---- traces

-- `given N`, or `pair I J K`
abbrev pub birth_text : Birth → Text
birth_text (Given n) = codes "given " ++ decimal n
birth_text (Pair i j at) = codes "pair " ++ (decimal i ++ (codes " " ++ (decimal j ++ (codes " " ++ decimal at))))

-- the line of a rule with its number
abbrev pub trace_line : LexiconView → ℕ → Rule → Text
trace_line x n r = codes "  " ++ (decimal n ++ (codes ": " ++ (rule_text x r ++ (codes " (" ++ (birth_text r.birth ++ codes ")\n")))))

-- the lines of rules that are numbered from n on
abbrev pub trace_from : LexiconView → ℕ → List Rule → Text
trace_from x n [] = []
trace_from x n (r ∷ rs) = trace_line x n r ++ trace_from x (n + 1) rs

abbrev pub trace_text : LexiconView → List Rule → Text
trace_text x rules = trace_from x 1 rules
