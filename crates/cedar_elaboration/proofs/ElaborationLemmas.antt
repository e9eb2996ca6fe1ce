-- Common types that are elaborated one after another.
use Rattle.std.proofs.Common.{◌≡◌, ◌⊎◌, ◌<◌, ◌++◌, Option, ℕ, length, get_or, List, [], ◌∷◌, map, Some, ap, sym, subst, ◌∙◌, inl, inr, Contains, arith, Result, Ok, Err, IfOk}
use Rattle.std.proofs.Math.ListN.{length-map}
use Rattle.std.proofs.lemmas.List.Elements.{Contains-append_cases, Contains-get_or}
use Rattle.std.specs.BTreeMap.{BTreeMap, insert_entry}
use Rattle.std.specs.Prelude.{slice_get}
use Rattle.cedar_ast.proofs.Basics.{Contains-image, Contains-single}
use Rattle.cedar_ast.proofs.Lists.{Contains-preimage}
use Rattle.cedar_ast.proofs.Names.{internal_name_ord-Equal}
use Rattle.cedar_ast.specs.contracts.internal_name.InternalNameOrd.TheImpl as order
use Rattle.cedar_elaboration.proofs.Entries.{inserted_cases, inserted_names, seen, seen_names}
use Rattle.cedar_elaboration.proofs.IndexLemmas.{Contains-at}
use Rattle.cedar_elaboration.proofs.ScopeLemmas.{same_resolves}
use Rattle.cedar_elaboration.specs.Words.{Covers, ElaboratesTo, Expr, Fault, HoldsElaborated, HoldsJust, Included, InternalName, IsCommonFault, IsElaborationOrder, IsExprFault, IsSoundExpr, Names, NamesItems, PlainName, Reference, ReferenceType, SameItems, Twice, Ty, TypeScope, Written, common_type_cycle, defined_over, duplicate_common_type, elaborated_types, held_names, item_names, name_of, names_of, out_of_memory, ty_of, written_common, written_expr}
use Rattle.cedar_schema_ast.specs.declared.json_schema.type_of.Type as json
use Rattle.cedar_schema_semantics.proofs.OccurrenceLemmas.{value_once}
use Rattle.cedar_types.specs.declared.types.Type.{«Type»}

-- the types of some entries, each with the name that it stands under
abbrev pub types_seen : List (InternalName × «Type») → List (PlainName × Ty)
types_seen entries = seen name_of ty_of entries

-- the common types of some indices are elaborated, and their definitions are sound
pub record ElaboratedInOrder (items : List (PlainName × Expr)) (names : Names) (extensions : List PlainName) (before : List ℕ)
    (types : List (PlainName × Ty)) : Type 0 where
  pub holds : HoldsElaborated (defined_over items names) types
  pub there : (item_index : ℕ) → Contains before item_index → (name : PlainName) → slice_get (item_names items) item_index ≡ Some name
      → Contains (map (λ it. it.0) types) name
  pub sound : (item_index : ℕ) → Contains before item_index → (item : PlainName × Expr) → slice_get items item_index ≡ Some item
      → IsSoundExpr (defined_over items names) extensions item.1

-- an index of an order is one of a declared common type
pub index_within : (N : Type 0) (refer : Option PlainName → ReferenceType → N → Reference) (declared : List (InternalName × Written (json.«Type» N)))
    (names : Names) (order : List ℕ) → IsElaborationOrder names (written_common N refer declared) order → (index : ℕ) → index < length order
    → get_or order index 0 < length declared
index_within N refer declared names order in_order index below =
    let item_index = get_or order index 0 in
    let IsWithin : ℕ → Type 0 = λ each. item_index < each in
    subst IsWithin (length-map declared (λ it. (name_of it.0, written_expr N refer it.1)))
    ((in_order.indices item_index).0 (Contains-get_or order index 0 below))

module _ (items : List (PlainName × Expr)) (names : Names) (extensions : List PlainName) where
  -- at first none is
  pub ElaboratedInOrder-none : (entries : List (InternalName × «Type»)) → entries ≡ []
      → ElaboratedInOrder items names extensions [] (types_seen entries)
  ElaboratedInOrder-none entries nothing =
      rw nothing (record {
        holds = λ name ty among. absurd (omega (arith, among.1));
        there = λ item_index among. absurd (omega (arith, among.1));
        sound = λ item_index among. absurd (omega (arith, among.1));
      })

  -- enough is known for the next definition
  pub Covers-next : (order before rest : List ℕ) (item_index : ℕ) (item : PlainName × Expr) (scope : TypeScope)
      → IsElaborationOrder names items order → order ≡ before ++ item_index ∷ rest → slice_get items item_index ≡ Some item
      → NamesItems names items → held_names scope.defs.now ≡ names
      → ElaboratedInOrder items names extensions before (elaborated_types scope.common.now)
      → Covers (defined_over items names) scope item.1
  Covers-next order before rest item_index item scope in_order split is named same so_far =
      let defined = defined_over items names in
      let just : HoldsJust names (names_of defined) = record {
        common = named;
        entities = λ name. (λ among. among, λ among. among);
        actions = λ uid. (λ among. among, λ among. among);
      } in
      let back : HoldsJust (names_of defined) names = record {
        common = λ name. ((named name).1, (named name).0);
        entities = λ name. (λ among. among, λ among. among);
        actions = λ uid. (λ among. among, λ among. among);
      } in
      record {
        names = rw same just;
        elaborated = so_far.holds;
        referred = λ reference refers name body resolves is_common.
            let found = in_order.after before rest item_index item split is reference refers is_common.0 name
            (same_resolves (names_of defined) names back reference name resolves)
            (Contains-image (λ it. it.0) items (name, body) is_common.1) in
            so_far.there found.0 found.1 name found.2;
      }

  -- the next is elaborated too
  pub ElaboratedInOrder-more : (before : List ℕ) (item_index : ℕ) (item : PlainName × Expr) (entries : List (InternalName × «Type»))
      (key : InternalName) (ty : «Type») → slice_get items item_index ≡ Some item → name_of key ≡ item.0
      → ElaboratesTo (defined_over items names) item.1 (ty_of ty)
      → IsSoundExpr (defined_over items names) extensions item.1
      → ElaboratedInOrder items names extensions before (types_seen entries)
      → ElaboratedInOrder items names extensions (before ++ item_index ∷ [])
      (types_seen (insert_entry ((order.ghosts).cmp) entries key ty))
  ElaboratedInOrder-more before item_index item entries key ty is same elaborated sound so_far =
      let cmp = (order.ghosts).cmp in
      let more : List (PlainName × Ty) = types_seen (insert_entry cmp entries key ty) in
      let there : (name : PlainName) → Contains (map (λ it. it.0) (types_seen entries)) name ⊎ (name_of key ≡ name)
      → Contains (map (λ it. it.0) more) name =
      λ name among. rw (seen_names name_of ty_of (insert_entry cmp entries key ty))
      (inserted_names cmp name_of internal_name_ord-Equal ty_of entries key ty name
      (elim among [ inl old ↦ inl (rw (seen_names name_of ty_of entries) at old) | inr new ↦ inr new ])) in
      record {
        holds = λ name other among. elim (inserted_cases cmp name_of internal_name_ord-Equal ty_of entries key ty (name, other) among) [
          | inl old ↦ so_far.holds name other old
          | inr new ↦
              let Defines : PlainName → Type 0 = λ each. Contains items (each, item.1) in (
                item.1,
                subst Defines (sym same ∙ ap (λ pair. pair.0) new) (Contains-at items item_index item is),
                rw (ap (λ pair. pair.1) new) at elaborated,
              )
        ];
        there = λ at among name stands. elim (Contains-append_cases before (item_index ∷ []) at among) [
          | inl old ↦ there name (inl (so_far.there at old name stands))
          | inr last ↦
              let here : slice_get (item_names items) item_index ≡ Some name = rw (Contains-single item_index at last) stands in
              let it : item.0 ≡ name = name_same items item_index item name is here in
              there name (inr (same ∙ it))
        ];
        sound = λ at among other stands. elim (Contains-append_cases before (item_index ∷ []) at among) [
          | inl old ↦ so_far.sound at old other stands
          | inr last ↦
              let here : slice_get items item_index ≡ Some other = rw (Contains-single item_index at last) stands in
              let it : item ≡ other = cc in
              rw it at sound
        ];
      }
    where
      name_same : (all : List (PlainName × Expr)) (i : ℕ) (it : PlainName × Expr) (name : PlainName)
          → slice_get all i ≡ Some it → slice_get (item_names all) i ≡ Some name → it.0 ≡ name
      name_same [] i it name at named = cc
      name_same (first ∷ rest) ℕ.zero it name at named =
          let one : first ≡ it = cc in
          let other : first.0 ≡ name = cc in
          sym (ap (λ each. each.0) one) ∙ other
      name_same (first ∷ rest) (ℕ.suc i) it name at named = name_same rest i it name at named

  -- the refusal of a definition is one of the common types
  fault_of_definition : (item : PlainName × Expr) → Contains items item → (fault : Fault)
      → IsExprFault (defined_over items names) extensions item.1 fault
      → IsCommonFault (defined_over items names) extensions fault
  fault_of_definition item among (duplicate_common_type name) at_fault = absurd at_fault
  fault_of_definition item among (common_type_cycle name) at_fault = absurd at_fault
  fault_of_definition item among out_of_memory at_fault = tt
  fault_of_definition item among _ at_fault = (item, among, at_fault)

  -- the refusal of the definition at an index is one of the common types
  pub fault_at : (item_index : ℕ) (item : PlainName × Expr) → slice_get items item_index ≡ Some item → (fault : Fault)
      → IsExprFault (defined_over items names) extensions item.1 fault
      → IsCommonFault (defined_over items names) extensions fault
  fault_at item_index item is fault at_fault = fault_of_definition item (Contains-at items item_index item is) fault at_fault

module _ (items : List (PlainName × Expr)) (names : Names) {E : Type 0} where
  -- the names under which the common types stand are just their own
  pub names_kept : (result : Result (BTreeMap InternalName «Type») E)
      → IfOk result (λ types. NamesItems names items → HoldsElaborated (defined_over items names) (elaborated_types types))
      → IfOk result (λ types. NamesItems names items → Included (item_names items) (map (λ it. it.0) (elaborated_types types)))
      → IfOk result (λ types. NamesItems names items → SameItems (map (λ it. it.0) (elaborated_types types)) (item_names items))
  names_kept (Ok types) holds each = λ named name. (
    λ among. let entry = Contains-preimage (λ it. it.0) (elaborated_types types) name among in
        let elaborated = holds named entry.0.0 entry.0.1 entry.1 in
        rw entry.2 at (Contains-image (λ it. it.0) items (entry.0.0, elaborated.0) elaborated.1),
    λ among. each named name among,
  )
  names_kept (Err error) holds each = tt

  -- where no name stands twice, each common type stands under its name
  pub elaborated_each : (result : Result (BTreeMap InternalName «Type») E) → ((name : PlainName) → ¬ Twice (item_names items) name)
      → IfOk result (λ types. NamesItems names items → HoldsElaborated (defined_over items names) (elaborated_types types))
      → IfOk result (λ types. NamesItems names items → Included (item_names items) (map (λ it. it.0) (elaborated_types types)))
      → IfOk result (λ types. NamesItems names items → (name : PlainName) (expr : Expr) → Contains items (name, expr)
      → (ty : Ty) × Contains (elaborated_types types) (name, ty) × ElaboratesTo (defined_over items names) expr ty)
  elaborated_each (Ok types) once holds each = λ named name expr among.
      let entry = Contains-preimage (λ it. it.0) (elaborated_types types) name
      (each named name (Contains-image (λ it. it.0) items (name, expr) among)) in
      let Stands : PlainName → Type 0 = λ it. Contains (elaborated_types types) (it, entry.0.1) in
      let stands : Contains (elaborated_types types) (name, entry.0.1) = subst Stands entry.2 entry.1 in
      let elaborated = holds named name entry.0.1 stands in
      let same : elaborated.0 ≡ expr = value_once items once name elaborated.0 expr elaborated.1 among in
      (entry.0.1, stands, rw same at elaborated.2)
  elaborated_each (Err error) once holds each = tt
