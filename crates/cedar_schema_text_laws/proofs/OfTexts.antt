-- What texts say: the forms that types have in fragments that were read of one.
use Rattle.std.proofs.Common.{◌≡◌, ℕ, ◌≤◌, Bool, true, false, ◌&&◌, List, [], ◌∷◌, ◌++◌, map, Option, Some, None, option_map, refl, ap, ◌∙◌, arith}
use Rattle.std.specs.Bool.{⊤}
use Rattle.std.specs.BTreeMap.{insert_entry}
use Rattle.std.specs.List.{AllByRecursion, flat_map, fold}
use Rattle.std.specs.Option.{option_or}
use Rattle.std.specs.Ordering.{match_ordering}
use Rattle.std.specs.declared.cmp.Ordering.{Ordering}
use Rattle.std.specs.declared.cmp.Ordering.TheVariants.{Equal, Greater, Less}
use Rattle.cedar_ast.specs.Words.{Text, text_cmp}
use Rattle.cedar_ast.specs.declared.loc.Loc.{Loc}
use Rattle.cedar_schema_grammar.specs.Grammar.{Form, IsApplies, IsId, IsName, IsBody, IsContext, IsDeclaration, IsItem, IsMember, IsPart, IsSchema, IsShape, SaysSo, many, separated}
use Rattle.cedar_schema_grammar.specs.Tree.{Applies, Attributes, Body, Declaration, Item, Member, Name, Part, Says, Ty, action, alone, attribute, choices, common, context, entity, highest, level, level_if, level_of_all, level_of_applies, level_of_body, level_of_declaration, level_of_item, level_of_member, level_of_part, named, namespace, no_attributes, principals, record_of, resources, set_of, standard}
use Rattle.cedar_schema_text.specs.Meaning.{Action, Block, Common, Entity, action_meant, actions_in, actions_of, alone_in, attributes_meant, block_meant, blocks_in, common_meant, commons_in, commons_of, context_meant, context_of, context_type, definition_meant, empty_namespace, entities_in, entities_of, entity_meant, first_said, fragment_meant, in_order, kind_meant, namespace_cmp, requests_meant, shape_meant, type_meant}
use Rattle.cedar_schema_text.specs.Placed.{ActionAt, AttributeAt, CommonTypeAt, DefinitionAt, EntityTypeAt, FieldsAt, KindAt, NameAt, RequestsAt, TypeAt, common_type, either_type, enumerated, field, fields_from, no_field, other_type, record_type, set_type, standard_kind}
use Rattle.cedar_schema_text_laws.proofs.DefinitionTexts.{action_entry, common_entry, entity_entry}
use Rattle.cedar_schema_text_laws.proofs.Said.{definition_said, fields_said, type_said}
use Rattle.cedar_schema_text_laws.specs.TextForm.{is_bare}
use Rattle.cedar_schema_text_laws.proofs.TypeTexts.{nest, nest_members}
use Rattle.cedar_schema_text_writer.specs.Names.{is_none}
use Rattle.cedar_schema_tokens.specs.Token.{Token}
use Rattle.cedar_schema_tokens.specs.declared.token.Symbol.TheVariants as mark_of

-- ---- what holds of entries, in whatever order

module _ {K V : Type 0} (Holds : K × V → Type 0) (cmp : K → K → Ordering)
    (stays : (key other : K) (value : V) → cmp key other ≡ Equal → Holds (key, value) → Holds (other, value)) where
  insert_each : (entries : List (K × V)) (key : K) (value : V) → AllByRecursion Holds entries → Holds (key, value)
      → AllByRecursion Holds (insert_entry cmp entries key value)
  insert_each [] key value all holds = (holds, tt)
  insert_each (entry ∷ rest) key value all holds = by (cmp key entry.0) refl (insert_each rest key value all.1 holds) where
    by : (order : Ordering) → cmp key entry.0 ≡ order → AllByRecursion Holds (insert_entry cmp rest key value)
        → AllByRecursion Holds (match_ordering order ((key, value) ∷ entry ∷ rest) ((entry.0, value) ∷ rest) (entry ∷ insert_entry cmp rest key value))
    by Less is behind = (holds, all)
    by Equal is behind = (stays key entry.0 value is holds, all.1)
    by Greater is behind = (all.0, behind)

  pub in_order_each : (entries : List (K × V)) → AllByRecursion Holds entries → AllByRecursion Holds (in_order cmp entries)
  in_order_each entries all = by [] entries tt all where
    by : (before these : List (K × V)) → AllByRecursion Holds before → AllByRecursion Holds these
        → AllByRecursion Holds (fold (λ done entry. insert_entry cmp done entry.0 entry.1) before these)
    by before [] done more = done
    by before (entry ∷ rest) done more = by (insert_entry cmp before entry.0 entry.1) rest (insert_each before entry.0 entry.1 done more.0) more.1

-- what holds of values
abbrev pub AllValues : {K V : Type 0} → (V → Type 0) → List (K × V) → Type 0
AllValues Holds entries = AllByRecursion (λ entry. Holds entry.1) entries

pub in_order_all : {K V : Type 0} (Holds : V → Type 0) (cmp : K → K → Ordering) (entries : List (K × V)) → AllValues Holds entries
    → AllValues Holds (in_order cmp entries)
in_order_all Holds cmp entries all = in_order_each (λ entry. Holds entry.1) cmp (λ key other value is holds. holds) entries all

-- entries in order are none where there are none
insert_some : {K V : Type 0} (cmp : K → K → Ordering) (entries : List (K × V)) (key : K) (value : V) → is_none (insert_entry cmp entries key value) ≡ false
insert_some cmp [] key value = refl
insert_some cmp (entry ∷ rest) key value = by (cmp key entry.0) where
  by : (order : Ordering) → is_none (match_ordering order ((key, value) ∷ entry ∷ rest) ((entry.0, value) ∷ rest) (entry ∷ insert_entry cmp rest key value)) ≡ false
  by Less = refl
  by Equal = refl
  by Greater = refl

pub in_order_some : {K V : Type 0} (cmp : K → K → Ordering) (entry : K × V) (rest : List (K × V)) → is_none (in_order cmp (entry ∷ rest)) ≡ false
in_order_some {K = K} {V = V} cmp entry rest = by (entry ∷ []) rest refl where
  by : (before these : List (K × V)) → is_none before ≡ false → is_none (fold (λ done each. insert_entry cmp done each.0 each.1) before these) ≡ false
  by before [] some = some
  by before (next ∷ more) some = by (insert_entry cmp before next.0 next.1) more (insert_some cmp before next.0 next.1)

pub all_append : {A : Type 0} (Holds : A → Type 0) (xs ys : List A) → AllByRecursion Holds xs → AllByRecursion Holds ys → AllByRecursion Holds (xs ++ ys)
all_append Holds [] ys one other = other
all_append Holds (x ∷ xs) ys one other = (one.0, all_append Holds xs ys one.1 other)

pub all_mapped : {A B : Type 0} (f : A → B) (Holds : B → Type 0) (xs : List A) → AllByRecursion (λ x. Holds (f x)) xs → AllByRecursion Holds (map f xs)
all_mapped f Holds [] all = tt
all_mapped f Holds (x ∷ xs) all = (all.0, all_mapped f Holds xs all.1)

pub all_flat : {A B : Type 0} (f : A → List B) (Holds : B → Type 0) (xs : List A) → AllByRecursion (λ x. AllByRecursion Holds (f x)) xs
    → AllByRecursion Holds (flat_map f xs)
all_flat f Holds [] all = tt
all_flat f Holds (x ∷ xs) all = all_append Holds (f x) (flat_map f xs) all.0 (all_flat f Holds xs all.1)

-- what holds of all things holds of each
pub all_of : {A : Type 0} (Holds : A → Type 0) → ((a : A) → Holds a) → (xs : List A) → AllByRecursion Holds xs
all_of Holds each [] = tt
all_of Holds each (x ∷ xs) = (each x, all_of Holds each xs)

-- ---- types

abbrev mutual
  -- a name of a common type or an entity type, or sets and closed records of such
  pub IsPlain : TypeAt → Type 0
  IsPlain (common_type name loc) = ⊥
  IsPlain (either_type name loc) = ⊤
  IsPlain (set_type element loc) = IsPlain element
  IsPlain (record_type fields additional loc) = (additional ≡ false) × ArePlain fields
  IsPlain other_type = ⊥

  pub ArePlain : FieldsAt → Type 0
  ArePlain no_field = ⊤
  ArePlain (field name ty required loc rest) = IsPlain ty × ArePlain rest

plain_fields : (entries : List (Text × AttributeAt)) → AllValues (λ (it : AttributeAt). IsPlain it.ty) entries → ArePlain (fields_from entries)
plain_fields [] all = tt
plain_fields (entry ∷ rest) all = (all.0, plain_fields rest all.1)

low_fields : (n : ℕ) (entries : List (Text × AttributeAt)) → AllValues (λ (it : AttributeAt). nest (type_said it.ty) ≤ n) entries
    → nest_members (fields_said (fields_from entries)) ≤ n
low_fields n [] all = omega arith
low_fields n (entry ∷ rest) all = let behind = low_fields n rest all.1 in let here = all.0 in omega (arith, here, behind)

mutual
  pub meant_plain : (ty : Ty) → IsPlain (type_meant ty)
  meant_plain (named path) = tt
  meant_plain (set_of element) = meant_plain element
  meant_plain (record_of all loc) =
      (refl, plain_fields (in_order text_cmp (attributes_meant all)) (in_order_all (λ (it : AttributeAt). IsPlain it.ty) text_cmp (attributes_meant all) (attributes_plain all)))

  attributes_plain : (all : Attributes) → AllValues (λ (it : AttributeAt). IsPlain it.ty) (attributes_meant all)
  attributes_plain no_attributes = tt
  attributes_plain (attribute annotations name is_required ty more) = (meant_plain ty, attributes_plain more)

mutual
  -- a type says no more levels than it has
  pub meant_low : (ty : Ty) → nest (type_said (type_meant ty)) ≤ level ty
  meant_low (named path) = omega arith
  meant_low (set_of element) = let inside = meant_low element in omega (arith, inside)
  meant_low (record_of all loc) =
      let inside = low_fields (level_of_all all) (in_order text_cmp (attributes_meant all))
      (in_order_all (λ (it : AttributeAt). nest (type_said it.ty) ≤ level_of_all all) text_cmp (attributes_meant all) (attributes_low all (level_of_all all) (omega arith))) in
      omega (arith, inside)

  attributes_low : (all : Attributes) (n : ℕ) → level_of_all all ≤ n → AllValues (λ (it : AttributeAt). nest (type_said it.ty) ≤ n) (attributes_meant all)
  attributes_low no_attributes n few = tt
  attributes_low (attribute annotations name is_required ty more) n few =
      let here = meant_low ty in (omega (arith, here, few), attributes_low more n (omega (arith, few)))

-- a type that a text says, within the limit
abbrev pub GoodType : TypeAt → Type 0
GoodType ty = IsPlain ty × (nest (type_said ty) ≤ 128)

pub good_type : (ty : Ty) → level ty ≤ 128 → GoodType (type_meant ty)
good_type ty few = let low = meant_low ty in (meant_plain ty, omega (arith, low, few))

abbrev pub IsRecordAt : TypeAt → Type 0
IsRecordAt (record_type fields additional loc) = ⊤
IsRecordAt _ = ⊥

-- a record, as a shape has to be
abbrev pub GoodShape : TypeAt → Type 0
GoodShape ty = IsRecordAt ty × GoodType ty

-- a record or a name of a common type, as a context has to be
abbrev pub GoodContext : TypeAt → Type 0
GoodContext (common_type name loc) = ⊤
GoodContext (record_type fields additional loc) = GoodType (record_type fields additional loc)
GoodContext _ = ⊥

abbrev pub GoodIf : Option TypeAt → Type 0
GoodIf None = ⊤
GoodIf (Some ty) = GoodType ty

-- ---- declarations

abbrev pub GoodKind : KindAt → Type 0
GoodKind (enumerated ids) = ⊤
GoodKind (standard_kind parents shape tags) = GoodShape shape × GoodIf tags

abbrev pub GoodRequests : Option RequestsAt → Type 0
GoodRequests None = ⊤
GoodRequests (Some it) = GoodContext it.context

abbrev pub GoodAction : ActionAt → Type 0
GoodAction it = (it.has_attributes ≡ false) × GoodRequests it.applies_to

-- what texts say of a definition
pub record GoodDefinition (it : DefinitionAt) : Type 0 where
  pub commons : AllValues (λ (it : CommonTypeAt). GoodType it.ty) it.common_types
  pub entities : AllValues (λ (it : EntityTypeAt). GoodKind it.kind) it.entity_types
  pub actions : AllValues GoodAction it.actions

shape_good : (shape : Option Ty) (ts rest : List Token) → IsShape shape ts rest → level_if shape ≤ 128 → GoodShape (shape_meant shape)
shape_good None ts rest is few = (tt, ((refl, tt), omega arith))
shape_good (Some (record_of all loc)) ts rest is few = (tt, good_type (record_of all loc) few)
shape_good (Some (named path)) ts rest is few = absurd is.2
shape_good (Some (set_of element)) ts rest is few = absurd is.2

tags_good : (tags : Option Ty) → level_if tags ≤ 128 → GoodIf (option_map type_meant tags)
tags_good None few = tt
tags_good (Some ty) few = good_type ty few

body_good : (body : Body) (ts rest : List Token) → IsBody body ts rest → level_of_body body ≤ 128 → GoodKind (kind_meant body)
body_good (choices texts) ts rest is few = tt
body_good (standard parents shape tags) ts rest is few =
    (shape_good shape is.0 is.2.0 is.2.1 (omega (arith, few)), tags_good tags (omega (arith, few)))

context_good : (ty : Ty) (ts rest : List Token) → IsContext ty ts rest → level ty ≤ 128 → GoodContext (context_type ty)
context_good (named path) ts rest is few = tt
context_good (record_of all loc) ts rest is few = good_type (record_of all loc) few
context_good (set_of element) ts rest is few = absurd is

-- a part says a context, or leaves that to others
part_good : (says : Says) (loc : Loc) (ts rest : List Token) → SaysSo says loc ts rest → (other : Option Ty) → level_of_part (record { says = says; loc = loc }) ≤ 128
    → GoodContext (context_meant other) → GoodContext (context_meant (option_or (context_of says) other))
part_good (principals paths) loc ts rest is other few good = good
part_good (resources paths) loc ts rest is other few good = good
part_good (context ty) loc ts rest is other few good = context_good ty is.2.0 rest is.2.2 few

parts_good : (parts : List Part) (ts rest : List Token) → separated mark_of.Comma IsPart parts ts rest → highest level_of_part parts ≤ 128
    → GoodContext (context_meant (first_said context_of parts))
parts_good [] ts rest is few = absurd is
parts_good (p ∷ []) ts rest is few = part_good p.says p.loc ts rest is None (omega (arith, few)) ((refl, tt), omega arith)
parts_good (p ∷ q ∷ more) ts rest is few =
    part_good p.says p.loc ts is.0 is.1 (first_said context_of (q ∷ more)) (omega (arith, few)) (parts_good (q ∷ more) is.2.0 rest is.2.2 (omega (arith, few)))

applies_good : (it : Option Applies) (ts rest : List Token) → IsApplies it ts rest → level_of_applies it ≤ 128 → GoodRequests (option_map requests_meant it)
applies_good None ts rest is few = tt
applies_good (Some it) ts rest is few = parts_good it.parts is.0.2.0 is.0.2.2.1.0 is.0.2.2.1.1 few

abbrev GoodEntityMeant : Entity → Type 0
GoodEntityMeant it = GoodKind (kind_meant it.body)

abbrev GoodActionMeant : Action → Type 0
GoodActionMeant it = GoodRequests (option_map requests_meant it.applies)

abbrev GoodCommonMeant : Common → Type 0
GoodCommonMeant it = GoodType (type_meant it.of)

record GoodDeclaration (d : Declaration) : Type 0 where
  commons : AllByRecursion GoodCommonMeant (commons_of d.item)
  entities : AllByRecursion GoodEntityMeant (entities_of d.item)
  actions : AllByRecursion GoodActionMeant (actions_of d.loc d.item)
  some : is_none (commons_of d.item) && (is_none (entities_of d.item) && is_none (actions_of d.loc d.item)) ≡ false

-- there are things where names with commas between them are
some_mapped : {A : Type 0} (form : Name → Form) (f : Name → A) (names : List Name) (ts rest : List Token) → separated mark_of.Comma form names ts rest
    → is_none (map f names) ≡ false
some_mapped form f [] ts rest is = absurd is
some_mapped form f (x ∷ names) ts rest is = refl

item_good : (it : Item) (loc : Loc) (annotations : List Name) (ts rest : List Token) → IsItem it ts rest → level_of_item it ≤ 128
    → GoodDeclaration (record { annotations = annotations; item = it; loc = loc })
item_good (entity external names body) loc annotations ts rest is few =
    let good = body_good body is.2.2.0 rest is.2.2.2 few in
    record {
      commons = tt;
      entities = all_mapped (λ x. record { name = x; external = external; body = body }) GoodEntityMeant names (all_of (λ x. GoodKind (kind_meant body)) (λ x. good) names);
      actions = tt;
      some = ap (λ test. test && true) (some_mapped IsId (λ x. record { name = x; external = external; body = body }) names is.2.0 is.2.2.0 is.2.2.1);
    }
item_good (action external names parents applies) loc annotations ts rest is few =
    let good = applies_good applies is.2.2.2.0 is.2.2.2.2.0 is.2.2.2.2.1 few in
    record {
      commons = tt;
      entities = tt;
      actions = all_mapped (λ x. record { name = x; external = external; parents = parents; applies = applies; loc = loc }) GoodActionMeant names
          (all_of (λ x. GoodRequests (option_map requests_meant applies)) (λ x. good) names);
      some = some_mapped IsName (λ x. record { name = x; external = external; parents = parents; applies = applies; loc = loc }) names is.2.0 is.2.2.0 is.2.2.1;
    }
item_good (common name ty) loc annotations ts rest is few = record { commons = (good_type ty few, tt); entities = tt; actions = tt; some = refl }

declarations_good : (all : List Declaration) (ts rest : List Token) → many IsDeclaration all ts rest → highest level_of_declaration all ≤ 128
    → AllByRecursion GoodDeclaration all
declarations_good [] ts rest is few = tt
declarations_good (d ∷ all) ts rest is few = (
  item_good d.item d.loc d.annotations is.1.0 is.1.2.0.0 is.1.2.0.1 (omega (arith, few)),
  declarations_good all is.0 rest is.2 (omega (arith, few)),
)

definition_good : (all : List Declaration) (loc : Option Loc) → AllByRecursion GoodDeclaration all → GoodDefinition (definition_meant all loc)
definition_good all loc good = record {
  commons = in_order_all (λ (it : CommonTypeAt). GoodType it.ty) text_cmp (map common_meant (commons_in all))
      (all_mapped common_meant (λ entry. GoodType entry.1.ty) (commons_in all)
      (all_flat (λ d. commons_of d.item) GoodCommonMeant all (each (λ d. AllByRecursion GoodCommonMeant (commons_of d.item)) (λ d it. it.commons) all good)));
  entities = in_order_all (λ (it : EntityTypeAt). GoodKind it.kind) text_cmp (map entity_meant (entities_in all))
      (all_mapped entity_meant (λ entry. GoodKind entry.1.kind) (entities_in all)
      (all_flat (λ d. entities_of d.item) GoodEntityMeant all (each (λ d. AllByRecursion GoodEntityMeant (entities_of d.item)) (λ d it. it.entities) all good)));
  actions = in_order_all GoodAction text_cmp (map action_meant (actions_in all))
      (all_mapped action_meant (λ entry. GoodAction entry.1) (actions_in all)
      (each_action (actions_in all) (all_flat (λ d. actions_of d.loc d.item) GoodActionMeant all
      (each (λ d. AllByRecursion GoodActionMeant (actions_of d.loc d.item)) (λ d it. it.actions) all good))));
} where
  each : (Holds : Declaration → Type 0) → ((d : Declaration) → GoodDeclaration d → Holds d) → (these : List Declaration) → AllByRecursion GoodDeclaration these
      → AllByRecursion Holds these
  each Holds gives [] every = tt
  each Holds gives (d ∷ these) every = (gives d every.0, each Holds gives these every.1)

  each_action : (these : List Action) → AllByRecursion GoodActionMeant these → AllByRecursion (λ (it : Action). GoodAction (action_meant it).1) these
  each_action [] every = tt
  each_action (it ∷ these) every = ((refl, every.0), each_action these every.1)

abbrev GoodBlock : Block → Type 0
GoodBlock it = GoodDefinition (definition_meant it.declarations (Some it.loc))

members_good : (all : List Member) (ts rest : List Token) → many IsMember all ts rest → highest level_of_member all ≤ 128
    → AllByRecursion GoodBlock (blocks_in all) × AllByRecursion GoodDeclaration (alone_in all)
members_good [] ts rest is few = (tt, tt)
members_good (namespace annotations path declarations loc ∷ all) ts rest is few =
    let inside = is.1.2.2.2.0 in
    let behind = members_good all is.0 rest is.2 (omega (arith, few)) in
    ((definition_good declarations (Some loc) (declarations_good declarations inside.0 inside.2.0 inside.2.1 (omega (arith, few))), behind.0), behind.1)
members_good (alone d ∷ all) ts rest is few =
    let behind = members_good all is.0 rest is.2 (omega (arith, few)) in
    (behind.0, (item_good d.item d.loc d.annotations is.1.0 is.1.2.0.0 is.1.2.0.1 (omega (arith, few)), behind.1))

-- ---- declarations outside of blocks

none_append : {A : Type 0} (xs ys : List A) → is_none (xs ++ ys) ≡ is_none xs && is_none ys
none_append [] ys = refl
none_append (x ∷ xs) ys = refl

none_mapped : {A B : Type 0} (f : A → B) (xs : List A) → is_none (map f xs) ≡ is_none xs
none_mapped f [] = refl
none_mapped f (x ∷ xs) = refl

none_in_order : {A V B : Type 0} (f : Text × V → B) (meant : A → Text × V) (xs : List A) → is_none (map f (in_order text_cmp (map meant xs))) ≡ is_none xs
none_in_order f meant [] = refl
none_in_order f meant (x ∷ xs) = none_mapped f (in_order text_cmp (map meant (x ∷ xs))) ∙ in_order_some text_cmp (meant x) (map meant xs)

never : (test : Bool) → test && false ≡ false
never true = refl
never false = refl

-- things of three kinds aren't none where the first of them aren't
some_first : (a b c d e f : Bool) → a && (c && e) ≡ false → (a && b) && ((c && d) && (e && f)) ≡ false
some_first false b c d e f some = refl
some_first true b false d e f some = never b
some_first true b true d false f some = ap (λ test. b && test) (never d) ∙ never b
some_first true b true d true f some = absurd (cc)

full_definition : (d : Declaration) (all : List Declaration) (loc : Option Loc) → GoodDeclaration d → is_bare (definition_said (definition_meant (d ∷ all) loc)) ≡ false
full_definition d all loc good =
    let commons = none_in_order common_entry common_meant (commons_in (d ∷ all)) ∙ none_append (commons_of d.item) (commons_in all) in
    let entities = none_in_order entity_entry entity_meant (entities_in (d ∷ all)) ∙ none_append (entities_of d.item) (entities_in all) in
    let actions = none_in_order action_entry action_meant (actions_in (d ∷ all)) ∙ none_append (actions_of d.loc d.item) (actions_in all) in
    (λ i. commons i && (entities i && actions i))
    ∙ some_first (is_none (commons_of d.item)) (is_none (commons_in all)) (is_none (entities_of d.item)) (is_none (entities_in all))
    (is_none (actions_of d.loc d.item)) (is_none (actions_in all)) good.some

-- something is declared in the empty namespace, where it is there
abbrev pub IsFull : Option NameAt × DefinitionAt → Type 0
IsFull (None, it) = is_bare (definition_said it) ≡ false
IsFull (Some name, it) = ⊤

stays_full : (key other : Option NameAt) (it : DefinitionAt) → namespace_cmp key other ≡ Equal → IsFull (key, it) → IsFull (other, it)
stays_full None None it is full = full
stays_full None (Some other) it is full = tt
stays_full (Some key) None it is full = absurd (cc)
stays_full (Some key) (Some other) it is full = tt

-- what texts say of a namespace
abbrev pub GoodNamespace : Option NameAt × DefinitionAt → Type 0
GoodNamespace entry = GoodDefinition entry.1 × IsFull entry

stays_good : (key other : Option NameAt) (it : DefinitionAt) → namespace_cmp key other ≡ Equal → GoodNamespace (key, it) → GoodNamespace (other, it)
stays_good key other it is good = (good.0, stays_full key other it is good.1)

outside_good : (all : List Declaration) → AllByRecursion GoodDeclaration all → AllByRecursion GoodNamespace (empty_namespace all)
outside_good [] good = tt
outside_good (d ∷ all) good = ((definition_good (d ∷ all) None good, full_definition d all None good.0), tt)

blocks_good : (all : List Block) → AllByRecursion GoodBlock all → AllByRecursion GoodNamespace (map block_meant all)
blocks_good [] good = tt
blocks_good (it ∷ all) good = ((good.0, tt), blocks_good all good.1)

-- what the members of a text mean, whose types aren't too deep
pub fragment_good : (all : List Member) (ts : List Token) → IsSchema all ts → highest level_of_member all ≤ 128
    → AllByRecursion GoodNamespace (fragment_meant all)
fragment_good all ts is few =
    let good = members_good all ts [] is few in
    in_order_each GoodNamespace namespace_cmp stays_good (map block_meant (blocks_in all) ++ empty_namespace (alone_in all))
    (all_append GoodNamespace (map block_meant (blocks_in all)) (empty_namespace (alone_in all)) (blocks_good (blocks_in all) good.0)
    (outside_good (alone_in all) good.1))
