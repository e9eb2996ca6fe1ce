use Rattle.std.proofs.Common.{◌≡◌, ◌↔◌, rules, Bor, Option, None, Some, ap, refl, subst, sym, ◌∙◌}
use Rattle.std.specs.Option.{IfSome, MatchOption, option_copied, option_map}
use Rattle.cedar_compare.proofs.SampledLemmas.{context_sampled}
use Rattle.cedar_compare.proofs.requests.requests_of.Goals as goal
use Rattle.cedar_compare.proofs.requests.requests_of.Goals.{in-Some+in_ok-found-in-Some, in-None}
use Rattle.cedar_compare.specs.Words.{Exists, Extensions, IncludedBetween, IsContextOutside, IsOutsideBetween, OutsideBetween, PlainSchema, Ty, «Type», ValidatorActionId, action_of, between_of, context_at, kind_context, new_of, old_of, ty_of, value_trees}

-- what a call finds is the context of the action, if there is one
called : (o : Option (Bor ValidatorActionId)) (r : Option (Bor «Type»))
    → MatchOption o (r ≡ None) (λ action. option_map ty_of (option_copied r) ≡ kind_context (action_of action.now).kind)
    → option_map ty_of (option_copied r) ≡ context_at (option_map action_of (option_copied o))
called None r is = ap (λ (it : Option (Bor «Type»)). option_map ty_of (option_copied it)) is
called (Some action) r is = is

-- what is found of two types is found of a context that is the second
found_of : (extensions : Extensions) (old new : PlainSchema) (ty upper : Ty) (context : Option Ty) (found : Option OutsideBetween)
    → Some upper ≡ context → (found ≡ None) ↔ IncludedBetween extensions old ty new upper
    → IfSome found (λ it. IsOutsideBetween extensions (Exists old) (Exists new) ty upper (between_of it))
    → IsContextOutside extensions old new ty context (option_map between_of found)
found_of extensions old new ty upper context None is none some = λ other also.
    let same : upper ≡ other = cc in subst (IncludedBetween extensions old ty new) same (none.0 refl)
found_of extensions old new ty upper context (Some it) is none some = (upper, sym is, some)

-- nothing is found where there is no context
found_none : (extensions : Extensions) (old new : PlainSchema) (ty : Ty) (context : Option Ty) (found : Option OutsideBetween) → None ≡ context
    → found ≡ None → IsContextOutside extensions old new ty context (option_map between_of found)
found_none extensions old new ty context None is none = λ other also. absurd cc
found_none extensions old new ty context (Some it) is none = absurd cc

pub outside_between-requires : goal.outside_between-requires
outside_between-requires c =
    let versions = c.args.versions.now in
    let sampled = context_sampled versions.extensions.now (value_trees versions.samples.now) (old_of versions) (ty_of c.args.context.now)
    c.requires.versions.sampled c.requires.context in
    record { sampled = sampled.inhabited; uids = sampled.uids }

pub returns-clause-requests : goal.returns-clause-requests
returns-clause-requests c =
    let extensions = c.args.versions.now.extensions.now in
    let ty = ty_of c.args.context.now in
    let new = c.find_action-new.result in
    let o = option_map action_of (option_copied new) in
    let action : MatchOption new (c.and_then.result ≡ None)
    (λ it. option_map ty_of (option_copied c.and_then.result) ≡ kind_context (action_of it.now).kind) = search rules in
    let context = called new c.and_then.result action in
    let shown : Option (Bor «Type») → Option Ty = λ it. option_map ty_of (option_copied it) in
    let old = old_of c.args.versions.now in
    let newer = new_of c.args.versions.now in
    let P : Option OutsideBetween → Type 0 = λ found. IsContextOutside extensions old newer ty (context_at o) (option_map between_of found) in
    record {
      action = c.find_action-new.ensures;
      context = elim c.match-and_then.branch [
        | in-Some+in_ok-found-in-Some w ↦
            (let it = w.in_ok-found-in-Some.ensures in
            subst P (sym w.found-is) (found_of extensions old newer ty (ty_of w.in-Some.other.now) (context_at o) w.in_ok-found-in-Some.found
            (sym (ap shown w.in-Some.is) ∙ context) it.none it.some))
        | in-None w ↦
            found_none extensions old newer ty (context_at o) c.match-and_then.found (sym (ap shown w.in-None.is) ∙ context) w.found-is
      ];
    }
