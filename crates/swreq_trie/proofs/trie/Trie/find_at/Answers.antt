use Rattle.std.proofs.Common.{◌-◌, take, drop, length, sym, ◌∙◌, ap, subst}
use Rattle.std.proofs.lemmas.List.{drop-take}
use Rattle.swreq_rule.proofs.swreq_word.Cuts.{whole_rest}
use Rattle.swreq_trie.specs.Stored.{NoneBegins, Shortest}
use Rattle.swreq_trie.specs.Walk.{FirstEnd, TellsNoEnd}
use Rattle.swreq_trie.proofs.Index.{none_begins, shortest}
use Rattle.swreq_trie.proofs.trie.Trie.find_at.Goals as goal

pub returns-in-Ok : goal.returns-in-Ok
returns-in-Ok c =
    let t = c.self.inside in
    let w = c.args.w.now in
    let at = c.args.at in
    let on_way =
    subst (λ ends. FirstEnd t.edges ends (take (length w - at) (drop at w)) c.in-Ok.number) c.deref.ensures.value c.in-Ok.ensures.found in
    subst (λ stored. Shortest stored (drop at w) c.in-Ok.number) c.self.view_is
    (subst (λ x. Shortest t.entries.items x c.in-Ok.number) (whole_rest w at)
    (shortest t.edges t.ends.items t.passing.items t.inside.items t.lengths t.entries.items c.self.invariant
    (take (length w - at) (drop at w)) c.in-Ok.number on_way))

pub returns-in-Err : goal.returns-in-Err
returns-in-Err c v same =
    let t = c.self.inside in
    let w = c.args.w.now in
    let at = c.args.at in
    let count = c.in-Err.count in
    let tells = subst (λ x. TellsNoEnd t.edges t.ends.items x count) (whole_rest w at)
    (subst (λ ends. TellsNoEnd t.edges ends (take (length w - at) (drop at w)) count) c.deref.ensures.value c.in-Err.ensures.found) in
    subst (λ stored. NoneBegins stored (drop at v)) c.self.view_is
    (none_begins t.edges t.ends.items t.passing.items t.inside.items t.lengths t.entries.items c.self.invariant (drop at v)
    (tells (drop at v) (sym (drop-take at count v) ∙ ap (drop at) same ∙ drop-take at count w)))
