use Rattle.std.proofs.Common.{◌≡◌, ◌∙◌, ◌&&◌, ap, sym}
use Rattle.std.specs.Cmp.Lexicographic.{pointwise}
use Rattle.std.specs.Map.{keys_of, values_of}
use Rattle.cedar_table.proofs.ColumnLemmas.{columns}
use Rattle.cedar_table.proofs.comparing.TablePartialEq.eq.Goals as goal
use Rattle.cedar_table.proofs.comparing.TablePartialEq.eq.Goals.{After-eq}

-- the keys of the entries were compared
keys : (g : _) (c : After-eq g) → c.eq.result
    ≡ pointwise g.K.PartialEq.eq (keys_of c.args.self.now.entries) (keys_of c.args.other.now.entries)
keys g c =
    let one = ap (λ it. it.keys) c.self-inside.view_is
    ∙ sym (columns c.self.inside.keys c.self.inside.values.items c.self.invariant c.args.self.now c.self.view_is).0 in
    let other = ap (λ it. it.keys) c.other-inside.view_is
    ∙ sym (columns c.other.inside.keys c.other.inside.values.items c.other.invariant c.args.other.now c.other.view_is).0 in
    c.eq.ensures ∙ (λ i. pointwise g.K.PartialEq.eq (one i) (other i))

pub returns-then-eq : goal.returns-then-eq
returns-then-eq g c =
    let one = ap (λ it. it.values.items) c.self-inside.view_is
    ∙ sym (columns c.self.inside.keys c.self.inside.values.items c.self.invariant c.args.self.now c.self.view_is).1 in
    let other = ap (λ it. it.values.items) c.other-inside.view_is
    ∙ sym (columns c.other.inside.keys c.other.inside.values.items c.other.invariant c.args.other.now c.other.view_is).1 in
    let values = pointwise g.V.PartialEq.eq (values_of c.args.self.now.entries) (values_of c.args.other.now.entries) in
    c.eq-then-eq.ensures ∙ ((λ i. pointwise g.V.PartialEq.eq (one i) (other i))
    ∙ sym (ap (λ same. same && values) (sym (keys g (goal.at.returns-then-eq g c).After-eq) ∙ c.if-eq.true)))

pub returns-else-eq : goal.returns-else-eq
returns-else-eq g c =
    let values = pointwise g.V.PartialEq.eq (values_of c.args.self.now.entries) (values_of c.args.other.now.entries) in
    c.if-eq.false ∙ sym (ap (λ same. same && values) (sym (keys g (goal.at.returns-else-eq g c).After-eq) ∙ c.if-eq.false))
