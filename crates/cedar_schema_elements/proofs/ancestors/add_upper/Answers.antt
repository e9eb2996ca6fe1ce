use Rattle.std.proofs.Common.{◌≡◌, Some, cond, is_some, ap, sym, ◌∙◌}
use Rattle.std.specs.BTreeMap.{is_at}
use Rattle.cedar_schema_elements.proofs.AncestorLemmas.{none_above, one_more_above, put_above, same_set, some_above}
use Rattle.cedar_schema_elements.proofs.ancestors.add_upper.Goals as goal
use Rattle.cedar_schema_elements.specs.Ancestors.{upper_set}

-- what had a set of uppers has one more in it
pub returns-in_ok-insert-in-Some : goal.returns-in_ok-insert-in-Some
returns-in_ok-insert-in-Some g c =
    let cmp = g.K.Ord.cmp in
    let name = g.V.SchemaNode.key_name in
    let tied = g.met.V.SchemaNode.tied_key in
    let before = c.args.ancestors.now in
    let lower = c.args.lower.now in
    let old = c.in-Some.set.now in
    let new = c.insert.new.self in
    let found : upper_set cmp before lower ≡ Some old = sym c.in-Some.ensures.value in
    put_above cmp name tied before (c.get_mut.follows.lender new) lower new ((c.get_mut.follows.holds new).3 (ap is_some found)).0
    (name c.args.upper.now)
    (one_more_above cmp name tied (upper_set cmp before lower) old.keys new.keys c.in_ok-upper.upper (name c.args.upper.now)
    (some_above name (upper_set cmp before lower) old found)
    c.in_ok-upper.ensures.name c.in_ok-insert-in-Some.ensures.updates.0)

-- what had none has a new set, of this one upper
pub returns-in_ok-insert-in-None-2 : goal.returns-in_ok-insert-in-None-2
returns-in_ok-insert-in-None-2 g c =
    let cmp = g.K.Ord.cmp in
    let name = g.V.SchemaNode.key_name in
    let tied = g.met.V.SchemaNode.tied_key in
    let before = c.args.ancestors.now in
    let lower = c.args.lower.now in
    let copy_of_lower = c.in_ok-copy_name-in-None.field-0 in
    let same = c.in_ok-copy_name-in-None.ensures.name in
    let old = c.new-set.result in
    let new = c.insert-in-None.new.self in
    let upper = name c.args.upper.now in
    let after = c.insert-in-None-2.new.self in
    rw same at (put_above cmp name tied before after copy_of_lower new (λ q. c.in_ok-insert-in-None-2.ensures.updates.0 q
    ∙ ap (λ ancestors. cond (is_at (cmp copy_of_lower) q) (Some new) (upper_set cmp ancestors q)) c.get_mut.follows.holds-at-none)
    upper (one_more_above cmp name tied (upper_set cmp before copy_of_lower) old.keys new.keys c.in_ok-upper.upper upper
    (none_above name (upper_set cmp before copy_of_lower) old.keys
    (same_set cmp name tied before copy_of_lower lower same ∙ sym c.in-None.ensures.value) c.new-set.ensures.empty)
    c.in_ok-upper.ensures.name c.in_ok-insert-in-None.ensures.updates.0))
