-- Attributes that are elaborated one after another.
use Rattle.std.proofs.Common.{◌≡◌, ◌⊎◌, Bool, false, true, List, [], ◌∷◌, ◌++◌, map, ap, sym, ◌∙◌, refl, inl, inr, append_assoc, string_bytes, Contains}
use Rattle.std.proofs.lemmas.Bool.{false≢true}
use Rattle.std.proofs.lemmas.List.{map-append, append-nil}
use Rattle.std.proofs.lemmas.Simd.{map-map}
use Rattle.std.specs.BTreeMap.{IsOrdered}
use Rattle.std.specs.Map.{keys_of}
use Rattle.std.specs.String.{string_cmp}
use Rattle.std.specs.declared.alloc.Global.{Global}
use Rattle.std.specs.declared.string.String.{String}
use Rattle.cedar_ast.proofs.Ordered.{IsStrictlySortedBy-map}
use Rattle.cedar_elaboration.proofs.ScopeLemmas.{Covers-part}
use Rattle.cedar_elaboration.specs.Words.{AttributeType, ClosedAttributes, Covers, CoversExtensions, Defined, ElaboratesAs, Expr, Fault, Fields, HasOpenRecord, HoldsLast, IsExprFault, IsElaborationFault, IsSortedByName, Members, MembersElaborateTo, MembersHaveOpenRecord, MembersMentionExtension, MembersRefer, PlainName, RecordType, Reference, ReferenceType, Text, Ty, TypeOfAttribute, TypeScope, as_member, as_no_member, as_record, attribute_of, end, extension_name, extensions_in_scope, field, field_names, fields_from, flag_and_expr, member, members_from, no_member, open_record, out-RecordType, out-TypeOfAttribute, out_of_memory, plain_attributes, record_expr, record_of, record_type_expr, reserved_name, text_cmp, type_expr, type_not_defined, unknown_extension_type}
use Rattle.cedar_schema_ast.proofs.ExprLemmas.{record_type_expr-entries, flag_and_expr-parts}
use Rattle.cedar_type_rules.proofs.Extensional.{fields_from-HoldsLast}

-- the attributes of one record after those of another
abbrev pub append_members : Members → Members → Members
append_members no_member others = others
append_members (member name required expr rest) others = member name required expr (append_members rest others)

-- the fields of one record after those of another
abbrev pub append_fields : Fields → Fields → Fields
append_fields end others = others
append_fields (field name required ty rest) others = field name required ty (append_fields rest others)

-- the attributes of pairs after others come after theirs
pub members_from-append : (items others : List (Text × (Bool × Expr)))
    → members_from (items ++ others) ≡ append_members (members_from items) (members_from others)
members_from-append [] others = refl
members_from-append (item ∷ items) others = ap (member item.0 item.1.0 item.1.1) (members_from-append items others)

-- the fields of pairs after others come after theirs
fields_from-append : (items others : List (Text × (Bool × Ty)))
    → fields_from (items ++ others) ≡ append_fields (fields_from items) (fields_from others)
fields_from-append [] others = refl
fields_from-append (item ∷ items) others = ap (field item.0 item.1.0 item.1.1) (fields_from-append items others)

-- what is elaborated after something else is elaborated after it
pub MembersElaborateTo-append : (defined : Defined) {members others : Members} {fields fields' : Fields}
    → MembersElaborateTo defined members fields → MembersElaborateTo defined others fields'
    → MembersElaborateTo defined (append_members members others) (append_fields fields fields')
MembersElaborateTo-append defined as_no_member after = after
MembersElaborateTo-append defined (as_member first rest) after = as_member first (MembersElaborateTo-append defined rest after)

-- the names stay as attributes are elaborated
MembersElaborateTo-names : (defined : Defined) (items : List (Text × (Bool × Expr))) {fields : Fields}
    → MembersElaborateTo defined (members_from items) fields → field_names fields ≡ map (λ item. item.0) items
MembersElaborateTo-names defined [] as_no_member = refl
MembersElaborateTo-names defined (item ∷ items) (as_member first rest) =
    ap (λ names. item.0 ∷ names) (MembersElaborateTo-names defined items rest)

-- an open record in attributes that come after others is one of all
have_open-right : (members others : Members) → MembersHaveOpenRecord others → MembersHaveOpenRecord (append_members members others)
have_open-right no_member others holds = holds
have_open-right (member name required expr rest) others holds = inr (have_open-right rest others holds)

-- an open record of all attributes is one of the first ones or of the others
have_open-cases : (members others : Members) → MembersHaveOpenRecord (append_members members others)
    → MembersHaveOpenRecord members ⊎ MembersHaveOpenRecord others
have_open-cases no_member others holds = inr holds
have_open-cases (member name required expr rest) others holds = elim holds [
  | inl here ↦ inl (inl here)
  | inr later ↦ elim (have_open-cases rest others later) [ inl front ↦ inl (inr front) | inr back ↦ inr back ]
]

-- an extension type in attributes that come after others is one of all
mention-right : (members others : Members) (word : Text) → MembersMentionExtension others word
    → MembersMentionExtension (append_members members others) word
mention-right no_member others word mentions = mentions
mention-right (member name required expr rest) others word mentions = inr (mention-right rest others word mentions)

-- an extension type of all attributes is one of the first ones or of the others
mention-cases : (members others : Members) (word : Text) → MembersMentionExtension (append_members members others) word
    → MembersMentionExtension members word ⊎ MembersMentionExtension others word
mention-cases no_member others word mentions = inr mentions
mention-cases (member name required expr rest) others word mentions = elim mentions [
  | inl here ↦ inl (inl here)
  | inr later ↦ elim (mention-cases rest others word later) [ inl front ↦ inl (inr front) | inr back ↦ inr back ]
]

-- a reference in attributes that come after others is one of all
pub refer-right : (members others : Members) (reference : Reference) → MembersRefer others reference
    → MembersRefer (append_members members others) reference
refer-right no_member others reference refers = refers
refer-right (member name required expr rest) others reference refers = inr (refer-right rest others reference refers)

-- a reference of all attributes is one of the first ones or of the others
pub refer-cases : (members others : Members) (reference : Reference) → MembersRefer (append_members members others) reference
    → MembersRefer members reference ⊎ MembersRefer others reference
refer-cases no_member others reference refers = inr refers
refer-cases (member name required expr rest) others reference refers = elim refers [
  | inl here ↦ inl (inl here)
  | inr later ↦ elim (refer-cases rest others reference later) [ inl front ↦ inl (inr front) | inr back ↦ inr back ]
]

-- the refusal of the type of an attribute is that of its record
fault_of_member : (defined : Defined) (extensions : List PlainName) (front : Members) (name : Text) (required : Bool)
    (expr : Expr) (rest : Members) (additional : Bool) (fault : Fault) → IsExprFault defined extensions expr fault
    → IsExprFault defined extensions (record_expr (append_members front (member name required expr rest)) additional) fault
fault_of_member defined extensions front name required expr rest additional open_record at_fault =
    inr (have_open-right front (member name required expr rest) (inl at_fault))
fault_of_member defined extensions front name required expr rest additional (type_not_defined references) at_fault = (
  at_fault.0,
  λ reference among. let found = at_fault.1 reference among in
      (refer-right front (member name required expr rest) reference (inl found.0), found.1),
)
fault_of_member defined extensions front name required expr rest additional (unknown_extension_type other) at_fault =
    (mention-right front (member name required expr rest) other.base (inl at_fault.0), at_fault.1, at_fault.2)
fault_of_member defined extensions front name required expr rest additional (reserved_name other) at_fault =
    (at_fault.0, refer-right front (member name required expr rest) at_fault.0 (inl at_fault.1), at_fault.2)
fault_of_member defined extensions front name required expr rest additional out_of_memory at_fault = tt
fault_of_member defined extensions front name required expr rest additional _ at_fault = at_fault

-- attributes over names of some form, where it is given what a name refers to at a place of each
-- kind
module _ (N : Type 0) (refer : ReferenceType → N → Reference) where
  -- the entries of a record type
  abbrev pub Entries : Type 0
  Entries = List (String Global × TypeOfAttribute N)

  -- the pairs of names and attributes that are elaborated so far
  abbrev pub Items : Type 0
  Items = List (String Global × AttributeType)

  -- what the entries of a record type stand for
  abbrev pub resolved_members : Entries → Members
  resolved_members entries =
      members_from (map (λ entry. (string_bytes entry.0, flag_and_expr N refer entry.1)) entries)

  -- what the type of an attribute stands for
  abbrev pub attribute_expr : TypeOfAttribute N → Expr
  attribute_expr attribute = type_expr N refer (out-TypeOfAttribute N attribute).ty

  -- the entries of a record type
  abbrev pub entries_of : RecordType N → Entries
  entries_of it = (out-RecordType N it).attributes.entries

  -- the entries after others give the attributes after theirs
  pub resolved_members-append : (done rest : Entries)
      → resolved_members (done ++ rest) ≡ append_members (resolved_members done) (resolved_members rest)
  resolved_members-append done rest =
      ap members_from (map-append _ done rest) ∙ members_from-append _ _

  -- one entry gives one attribute
  pub resolved_members-one : (name : String Global) (attribute : TypeOfAttribute N) (rest : Entries)
      → resolved_members ((name, attribute) ∷ rest)
      ≡ member (string_bytes name) (out-TypeOfAttribute N attribute).required (attribute_expr attribute) (resolved_members rest)
  resolved_members-one name attribute rest =
      ap (λ pair. member (string_bytes name) pair.0 pair.1 (resolved_members rest))
      (flag_and_expr-parts N refer attribute)

  -- a record type by the entries before one of them, and those after it
  pub resolved_record-split : (it : RecordType N) (done left rest : Entries) (name : String Global)
      (attribute : TypeOfAttribute N) → entries_of it ≡ done ++ left → left ≡ (name, attribute) ∷ rest
      → record_type_expr N refer it
      ≡ record_expr (append_members (resolved_members done)
      (member (string_bytes name) (out-TypeOfAttribute N attribute).required (attribute_expr attribute) (resolved_members rest)))
      (out-RecordType N it).additional_attributes
  resolved_record-split it done left rest name attribute split is =
      record_type_expr-entries N refer it
      ∙ ap (λ members. record_expr members (out-RecordType N it).additional_attributes)
      (ap resolved_members (split ∙ ap (λ others. done ++ others) is)
      ∙ (resolved_members-append done ((name, attribute) ∷ rest)
      ∙ ap (append_members (resolved_members done)) (resolved_members-one name attribute rest)))

  -- of a record type some entries are elaborated, and others are left
  pub record ElaboratedSoFar (scope : TypeScope) (it : RecordType N) (items : Items) (left : Entries) : Type 0 where
    pub done : Entries
    pub split : entries_of it ≡ done ++ left
    pub elaborated : (defined : Defined) → Covers defined scope (record_type_expr N refer it)
        → MembersElaborateTo defined (resolved_members done) (fields_from (plain_attributes items))
    pub closed : ¬ MembersHaveOpenRecord (resolved_members done)
    pub extensions : (word : Text) → MembersMentionExtension (resolved_members done) word
        → Contains (extensions_in_scope scope) (extension_name word)

  -- at first nothing is elaborated
  pub ElaboratedSoFar-none : (scope : TypeScope) (it : RecordType N) (left : Entries) (items : Items)
      → entries_of it ≡ left → items ≡ [] → ElaboratedSoFar scope it items left
  ElaboratedSoFar-none scope it left items same nothing = record {
    done = [];
    split = same;
    elaborated = λ defined knows. rw nothing as_no_member;
    closed = λ holds. holds;
    extensions = λ word mentions. absurd mentions;
  }

  -- the attributes of a record with one more at the end
  plain_attributes-push : (items : Items) (name : String Global) (declared : AttributeType) (bytes : Text)
      (required : Bool) (ty : Ty) → string_bytes name ≡ bytes → attribute_of declared ≡ (required, ty)
      → fields_from (plain_attributes (items ++ (name, declared) ∷ []))
      ≡ append_fields (fields_from (plain_attributes items)) (field bytes required ty end)
  plain_attributes-push items name declared bytes required ty same_name same =
      ap fields_from (map-append (λ item. (string_bytes item.0, attribute_of item.1)) items ((name, declared) ∷ []))
      ∙ (fields_from-append (plain_attributes items) ((string_bytes name, attribute_of declared) ∷ [])
      ∙ (ap (λ text. append_fields (fields_from (plain_attributes items))
      (field text (attribute_of declared).0 (attribute_of declared).1 end)) same_name
      ∙ ap (λ pair. append_fields (fields_from (plain_attributes items)) (field bytes pair.0 pair.1 end)) same))

  module _ (scope : TypeScope) (it : RecordType N) (left rest : Entries) (items : Items) (name : String Global)
      (attribute : TypeOfAttribute N) (is : left ≡ (name, attribute) ∷ rest)
      (so_far : ElaboratedSoFar scope it items left) where
    -- what is known for the record type is known for the type of the next entry
    pub Covers-next : (defined : Defined) → Covers defined scope (record_type_expr N refer it) → Covers defined scope (attribute_expr attribute)
    Covers-next defined knows =
        let whole = resolved_record-split it so_far.done left rest name attribute so_far.split is in
        Covers-part defined scope (record_type_expr N refer it) (attribute_expr attribute)
        (λ reference refers. rw whole (refer-right (resolved_members so_far.done) (member (string_bytes name)
        (out-TypeOfAttribute N attribute).required (attribute_expr attribute) (resolved_members rest)) reference (inl refers)))
        knows

    -- the refusal of the type of the next entry is that of the record type
    pub fault_of_next : (fault : Fault) → IsElaborationFault scope (attribute_expr attribute) fault → IsElaborationFault scope (record_type_expr N refer it) fault
    fault_of_next fault at_fault = record {
      each = λ defined knows. rw (resolved_record-split it so_far.done left rest name attribute so_far.split is)
          (fault_of_member defined (extensions_in_scope scope) (resolved_members so_far.done) (string_bytes name)
          (out-TypeOfAttribute N attribute).required (attribute_expr attribute) (resolved_members rest)
          (out-RecordType N it).additional_attributes fault (at_fault.each defined (Covers-next defined knows)));
    }

    -- one more entry is elaborated
    pub ElaboratedSoFar-more : (name' : String Global) (declared : AttributeType) (ty : Ty) → string_bytes name' ≡ string_bytes name
        → attribute_of declared ≡ ((out-TypeOfAttribute N attribute).required, ty)
        → ElaboratesAs scope (attribute_expr attribute) ty
        → (¬ HasOpenRecord (attribute_expr attribute))
        → CoversExtensions scope (attribute_expr attribute)
        → ElaboratedSoFar scope it (items ++ (name', declared) ∷ []) rest
    ElaboratedSoFar-more name' declared ty same_name same one closed extensions =
        let required = (out-TypeOfAttribute N attribute).required in
        let front = resolved_members so_far.done in
        let last : Members = member (string_bytes name) required (attribute_expr attribute) no_member in
        let members : resolved_members (so_far.done ++ (name, attribute) ∷ []) ≡ append_members front last =
        resolved_members-append so_far.done ((name, attribute) ∷ [])
        ∙ ap (append_members front) (resolved_members-one name attribute []) in
        let fields = plain_attributes-push items name' declared (string_bytes name) required ty same_name same in
        record {
          done = so_far.done ++ (name, attribute) ∷ [];
          split = so_far.split ∙ (ap (λ others. so_far.done ++ others) is ∙ sym (append_assoc so_far.done ((name, attribute) ∷ []) rest));
          elaborated = λ defined knows.
              rw (members, fields) (MembersElaborateTo-append defined (so_far.elaborated defined knows)
              (as_member (one defined (Covers-next defined knows)) as_no_member));
          closed = rw members (λ holds. elim (have_open-cases front last holds) [
            | inl here ↦ so_far.closed here
            | inr (inl here) ↦ closed here
            | inr (inr none) ↦ none
          ]);
          extensions = rw members (λ word mentions. elim (mention-cases front last word mentions) [
            | inl here ↦ so_far.extensions word here
            | inr (inl here) ↦ extensions word here
            | inr (inr none) ↦ absurd none
          ]);
        }

  module _ (scope : TypeScope) (it : RecordType N) (items : Items) (left : Entries) (nothing : left ≡ [])
      (so_far : ElaboratedSoFar scope it items left) where
    -- where no entry is left all are elaborated
    ElaboratedSoFar-done : so_far.done ≡ entries_of it
    ElaboratedSoFar-done = sym (so_far.split ∙ (ap (λ others. so_far.done ++ others) nothing ∙ append-nil so_far.done))

    -- a record type is elaborated as the closed record of attributes that hold the last of those
    -- that are elaborated
    pub record_elaborated : (fields : Fields) → IsOrdered string_cmp (out-RecordType N it).attributes
        → HoldsLast (plain_attributes items) fields → IsSortedByName fields
        → ElaboratesAs scope (record_type_expr N refer it) (record_of fields ClosedAttributes)
    record_elaborated fields ordered holds sorted_by_name defined knows =
        let all = entries_of it in
        let plain : List (Text × (Bool × Expr)) =
        map (λ entry. (string_bytes entry.0, flag_and_expr N refer entry.1)) all in
        let Elaborates : Entries → Type 0 = λ entries. MembersElaborateTo defined (resolved_members entries) (fields_from (plain_attributes items)) in
        let elaborated : Elaborates all = rw ElaboratedSoFar-done at (so_far.elaborated defined knows) in
        let names : field_names (fields_from (plain_attributes items)) ≡ map string_bytes (keys_of all) =
        MembersElaborateTo-names defined plain elaborated
        ∙ (map-map (λ item. item.0) (λ entry. (string_bytes entry.0, flag_and_expr N refer entry.1)) all
        ∙ sym (map-map string_bytes (λ entry. entry.0) all)) in
        let in_order : IsSortedByName (fields_from (plain_attributes items)) =
        rw names (IsStrictlySortedBy-map string_cmp text_cmp string_bytes (λ a b. refl) _ ordered) in
        rw (record_type_expr-entries N refer it)
        (as_record (rw (← fields_from-HoldsLast (plain_attributes items) fields in_order sorted_by_name holds) at elaborated))

    -- a record type without additional attributes whose attributes are closed is closed
    pub record_closed : (out-RecordType N it).additional_attributes ≡ false → ¬ HasOpenRecord (record_type_expr N refer it)
    record_closed listed holds = elim (rw (record_type_expr-entries N refer it) at holds) [
      | inl additional ↦ false≢true (sym listed ∙ additional)
      | inr there ↦ rw ElaboratedSoFar-done at so_far.closed there
    ]

    -- the extension types of a record type are those of its attributes
    pub record_extensions : CoversExtensions scope (record_type_expr N refer it)
    record_extensions word mentions =
        (rw ElaboratedSoFar-done at (so_far.extensions word))
        (rw (record_type_expr-entries N refer it) at mentions)

  -- a record type with additional attributes is refused
  pub record_open : (scope : TypeScope) (it : RecordType N) → (out-RecordType N it).additional_attributes ≡ true
      → IsElaborationFault scope (record_type_expr N refer it) open_record
  record_open scope it additional = record { each = λ defined knows. rw (record_type_expr-entries N refer it) (inl additional) }
