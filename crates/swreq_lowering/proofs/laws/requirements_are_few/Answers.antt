use Rattle.swreq_lowering.proofs.Counting.{few_requirements}
use Rattle.swreq_lowering.proofs.laws.requirements_are_few.Goals as goal

pub returns : goal.returns
returns c limit w stands = few_requirements c.args.text.now w c.tokens_are_slices.ensures limit stands
