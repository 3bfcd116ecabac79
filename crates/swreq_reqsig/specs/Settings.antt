-- What families are asked over.
use Rattle.swreq_valid.specs.swreq_symbols.Texts.{world_of}
use Rattle.swreq_valid.specs.swreq_world.Worlds.{TextWorld}
use Rattle.swreq_reqsig.specs.declared.setting.Setting.{Setting}

-- the world of the text
abbrev pub text_in : Setting → TextWorld
text_in s = world_of s.text
