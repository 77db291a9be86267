-- `saying::without_number` meets its contract: where the number stands std splits the text at it. Assumes nothing.
use Rattle.std.proofs.Common.{Some, None, refl}
use Rattle.std.proofs.lemmas.Str.Pattern.{split_text_parts}
use Rattle.saying.specs.Reasons.{numbered, plain, before_number}
use Rattle.saying.proofs.without_number.Goals as goal

pub returns-in-Some : goal.returns-in-Some
returns-in-Some c =
    numbered c.in-Some.field-0-1.now (split_text_parts before_number c.args.said.now (Some (c.in-Some.words, c.in-Some.field-0-1)) c.in-Some.ensures.cases)

pub returns-in-None : goal.returns-in-None
returns-in-None c = plain (split_text_parts before_number c.args.said.now None c.in-None.ensures.cases) refl
