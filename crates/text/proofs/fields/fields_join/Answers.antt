-- The proof of `fields_join`: what the search leaves open.
use Rattle.text.proofs.FieldLemmas.{fields_join}
use Rattle.text.proofs.fields.fields_join.Goals as goal

pub returns : goal.returns
returns c = fields_join
