use Rattle.std.proofs.Common.{◌∙◌, IfNone, List, subst, ℕ}
use Rattle.cedar_table.proofs.table_keys.TableKeys.place.Goals as goal
use Rattle.cedar_table.specs.StandsAt.{KeyStandsAt}

pub returns-clause-lacking : goal.returns-clause-lacking
returns-clause-lacking g c =
    let At : List g.row.K.Denot → Type 0 = λ keys.
    IfNone c.place_of.result ((place : ℕ) → ¬ KeyStandsAt g.K.Ord.cmp keys c.args.key.now place) in
    subst At (c.deref.ensures.value ∙ c.self.view_is) c.place_of.ensures.lacking
