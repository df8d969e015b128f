-- The keys of a set differ, and so do their texts.
use Rattle.ucq_terms.specs.inner.Texts.{text_bytes}
use Rattle.ucq_terms.proofs.Texts.{texts_apart}
use Rattle.ucq_terms.proofs.naming.Names.len.Goals as goal

pub returns-clause-different : goal.returns-clause-different
returns-clause-different c = rw (← c.self.view_is) (texts_apart text_bytes c.self.inside.texts.keys c.len.ensures.unique)
