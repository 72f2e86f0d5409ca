use Rattle.hq_text.proofs.Spelled.{name_text}
use Rattle.hq_text.proofs.name.Name.as_str.Goals as goal

pub unwrap-requires : goal.unwrap-requires
unwrap-requires c = name_text _ _ _ c.from_utf8.result _ _ (rw c.as_bytes.ensures.value c.as_bytes.ensures.name) c.from_utf8.ensures.cases
