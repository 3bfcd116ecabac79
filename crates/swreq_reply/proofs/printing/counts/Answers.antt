use Rattle.std.proofs.Common.{◌∙◌, ◌++◌, ◌∷◌, [], List, ap, append-nil, refl, sym, ℕ}
use Rattle.swreq_check.specs.Contents.{backing_of, makes}
use Rattle.swreq_reply.specs.Outputs.{sizes_text, verdicts_text}
use Rattle.swreq_reply.proofs.printing.counts.Goals as goal

pub count_of-yes_count-requires : goal.count_of-yes_count-requires
count_of-yes_count-requires c = ap makes c.requires

pub count_of-no_count-requires : goal.count_of-no_count-requires
count_of-no_count-requires c = ap makes c.requires

pub count_of-invalid_count-requires : goal.count_of-invalid_count-requires
count_of-invalid_count-requires c = ap makes c.requires

pub last_answer-requires-clause-answers : goal.last_answer-requires-clause-answers
last_answer-requires-clause-answers c = ap makes c.requires

pub last_answer-requires-clause-plain : goal.last_answer-requires-clause-plain
last_answer-requires-clause-plain c = ap backing_of c.requires

pub returns : goal.returns
returns c =
    let sizes = sizes_text c.args.n in
    let verdicts = verdicts_text c.count_of-yes_count.result c.count_of-no_count.result c.count_of-invalid_count.result in
    let last = c.last_answer.result.now in (
      (sizes ++ verdicts) ∷ last ∷ [],
      record {
        yes_count = c.count_of-yes_count.result;
        no_count = c.count_of-no_count.result;
        invalid_count = c.count_of-invalid_count.result;
        last = last;
        say_yes = c.count_of-yes_count.ensures;
        say_no = c.count_of-no_count.ensures;
        say_invalid = c.count_of-invalid_count.ensures;
        ends = c.last_answer.ensures;
        pieces_are = refl;
      },
      c.in_ok-append_bytes.ensures.ok ∙ ap (λ (t : List ℕ). t ++ last) (c.in_ok-put_verdicts.ensures
          ∙ ap (λ (t : List ℕ). t ++ verdicts) (c.in_ok-put_sizes.ensures ∙ ap (λ (t : List ℕ). t ++ sizes) c.new-out.ensures.items))
          ∙ ap (λ (t : List ℕ). (sizes ++ verdicts) ++ t) (sym (append-nil last)),
    )
