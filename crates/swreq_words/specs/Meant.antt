-- What a meaning of the program stands for among the meanings of the definitions.
use Rattle.swreq_words.specs.declared.meaning.Meaning.{Meaning}
use Rattle.swreq_words.specs.declared.meaning.Meaning.TheVariants.{Opens, Sets, Traces, Other}
use Rattle.swreq_words.specs.Reading as reading

abbrev pub meant : Meaning → reading.Meaning
meant (Opens limit) = reading.opens limit
meant (Sets limit text) = reading.sets_limit limit text.now
meant Traces = reading.traces
meant Other = reading.other
