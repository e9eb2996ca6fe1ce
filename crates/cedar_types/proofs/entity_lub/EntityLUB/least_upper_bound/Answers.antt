use Rattle.std.proofs.Common.{◌≡◌, ◌++◌, ap, inl, map, subst, sym, ◌∙◌}
use Rattle.std.proofs.lemmas.Result.{IfOk-weaker}
use Rattle.cedar_types.proofs.MergedLemmas.{IsUnionOf-copied, nonempty_above}
use Rattle.cedar_types.proofs.entity_lub.EntityLUB.least_upper_bound.Goals as goal
use Rattle.cedar_types.specs.Words.{IsUnionOf, lub_formed, lub_names, lub_types, type_name}

pub of_sorted-requires-clause-nonempty : goal.of_sorted-requires-clause-nonempty
of_sorted-requires-clause-nonempty c none =
    let both : map (λ ty. ty.now) c.in_ok-both_types.field-0.items ≡ lub_types c.args.self.now ++ lub_types c.args.other.now =
    c.in_ok-both_types.ensures ∙ (λ i. (c.value-types.ensures i).items ++ (c.value.ensures i).items) in
    let union = IsUnionOf-copied (lub_types c.args.self.now) (lub_types c.args.other.now) c.in_ok-both_types.field-0.items
    c.in_ok-both.both.items c.in_ok-share_all.field-0.items both c.in_ok-both.ensures.names c.in_ok-share_all.ensures in
    nonempty_above (lub_names c.args.self.now) _ (λ name among. (union name).1 (inl among)) (lub_formed c.args.self.now).0 (ap (map type_name) none)

pub returns : goal.returns
returns c =
    let both : map (λ ty. ty.now) c.in_ok-both_types.field-0.items ≡ lub_types c.args.self.now ++ lub_types c.args.other.now =
    c.in_ok-both_types.ensures ∙ (λ i. (c.value-types.ensures i).items ++ (c.value.ensures i).items) in
    let union = IsUnionOf-copied (lub_types c.args.self.now) (lub_types c.args.other.now) c.in_ok-both_types.field-0.items
    c.in_ok-both.both.items c.in_ok-share_all.field-0.items both c.in_ok-both.ensures.names c.in_ok-share_all.ensures in
    IfOk-weaker c.of_sorted.result _ _ (λ lub same. subst (IsUnionOf (lub_names c.args.self.now) (lub_names c.args.other.now)) (ap (map type_name) (sym same)) union) c.of_sorted.ensures
