use Rattle.std.proofs.Common.{◌≡◌, All, List, Contains, Option, arith, inr, map, subst, sym}
use Rattle.std.proofs.lemmas.List.{take_all}
use Rattle.std.proofs.lemmas.List.Elements.{All-more}
use Rattle.std.specs.Option.{option_map}
use Rattle.cedar_ast.proofs.Basics.{Contains-image}
use Rattle.cedar_ast.proofs.Lists.{Contains-cons}
use Rattle.cedar_compare.proofs.BareLemmas.{of_its_kind}
use Rattle.cedar_compare.proofs.ChoiceLemmas.{each_image}
use Rattle.cedar_compare.proofs.entity_types.lost_enumerated.Goals as goal
use Rattle.cedar_compare.specs.Words.{Difference, Eid, EntityTypeKind, IsChoiceAnswer, IsEntityIn, IsEntityOfKind, bare_entity, choice_texts, eid_text, new_of, old_of, plain_difference, type_name}

-- an id of the tail is one of the choices of the type
pub lost_choice-requires-in-loop-eid-clause-old : goal.lost_choice-requires-in-loop-eid-clause-old
lost_choice-requires-in-loop-eid-clause-old c =
    let eid = c.eid-item.result in
    let head = c.args.choices.now.head in
    let tail = c.args.choices.now.tail.items in
    let there : Contains c.deref-eid-items.result.now eid = (c.loop-eid.eid-index, c.loop-eid-test.true, sym c.eid-item.is) in
    let among = subst (λ (xs : List Eid). Contains xs eid) c.deref-eid-items.ensures.value there in
    let old = c.requires.old in (
      old.0,
      old.1,
      (
        choice_texts c.args.choices.now,
        old.2,
        Contains-cons (eid_text head) (map eid_text tail) (eid_text eid)
            (inr (Contains-image eid_text tail eid among)),
      ),
    )

-- the first choice was kept, and none of the others is looked at yet
pub loop-eid-init : goal.loop-eid-init
loop-eid-init c =
    let versions = c.args.versions.now in
    let name = type_name c.args.name.now in
    record {
      head = subst (λ (o : Option Difference). IsChoiceAnswer versions.extensions.now (old_of versions) (new_of versions) name
          (eid_text c.args.choices.now.head) (option_map plain_difference o)) c.in_default.is c.in_ok-difference.ensures;
      tail = λ k d below. absurd (omega (arith, below));
    }

-- one more choice was kept
pub loop-eid-preserved : goal.loop-eid-preserved
loop-eid-preserved c =
    let versions = c.args.versions.now in
    let name = type_name c.args.name.now in
    let P : Eid → Type 0 = λ eid. IsEntityIn versions.extensions.now (new_of versions) (bare_entity name (eid_text eid)) in
    let here = subst (λ (o : Option Difference). IsChoiceAnswer versions.extensions.now (old_of versions) (new_of versions) name
    (eid_text c.eid-item.result) (option_map plain_difference o)) c.in_default-2.is c.in_ok-difference-2.ensures in
    record {
      head = c.loop-eid.invariant.head;
      tail = All-more P c.deref-eid-items.result.now c.loop-eid.eid-index c.eid-item.result c.loop-eid-test.true c.loop-eid.invariant.tail
          (subst P c.eid-item.is here);
    }

-- each choice was kept, and an entity of the type is one of its choices and nothing else
pub returns : goal.returns
returns c = λ it named real of.
    let versions = c.args.versions.now in
    let extensions = versions.extensions.now in
    let old = old_of versions in
    let new = new_of versions in
    let name = type_name c.args.name.now in
    let choice = c.requires.old in
    let there = subst (λ n. Contains old.entity_types (n, choice.0)) (sym named) choice.1 in
    let parts = subst (λ (k : EntityTypeKind). IsEntityOfKind extensions old k it) choice.2
    (of_its_kind extensions old c.requires.versions.old_keyed it choice.0 there of) in
    let Q : List Eid → Type 0 = All (λ eid. IsEntityIn extensions new (bare_entity name (eid_text eid))) in
    let all = subst Q c.deref-eid-items.ensures.value
    (subst Q (take_all c.loop-eid.eid-index c.deref-eid-items.result.now c.loop-eid-test.false) c.loop-eid.invariant.tail) in
    let kept = each_image (λ id. IsEntityIn extensions new (bare_entity name id)) eid_text c.args.choices.now.head c.args.choices.now.tail.items
    c.loop-eid.invariant.head all it.uid.eid parts.0 in
    let is : bare_entity name it.uid.eid ≡ it = λ i. record {
      uid = record { ty = (sym named) i; eid = it.uid.eid };
      attributes = (sym parts.1) i;
      tags = (sym parts.2) i;
      ancestors = (sym parts.3) i;
    } in
    subst (IsEntityIn extensions new) is kept
