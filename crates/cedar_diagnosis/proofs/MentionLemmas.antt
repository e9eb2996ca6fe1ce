-- What stands in types, added one after another.
use Rattle.std.proofs.Common.{◌≡◌, ◌⊎◌, ◌↔◌, IsTrue, OnOk, Result, Ok, Err, Bool, List, [], ◌∷◌, ◌++◌, map, ap, sym, ◌∙◌, subst, refl, inl, inr, append_assoc, Contains, Option, string_bytes, arith}
use Rattle.std.proofs.lemmas.List.{append-nil}
use Rattle.std.proofs.lemmas.List.Elements.{Contains-append_left, Contains-append_right, Contains-append_cases}
use Rattle.std.specs.declared.alloc.Global.{Global}
use Rattle.std.specs.declared.string.String.{String}
use Rattle.cedar_ast.proofs.Basics.{Contains-image, Contains-single}
use Rattle.cedar_ast.proofs.Lists.{Contains-cons, Contains-cons_cases, Contains-preimage}
use Rattle.cedar_ast.specs.Words.{PlainName, Text, unreserved_id_text}
use Rattle.cedar_diagnosis.proofs.AddingLemmas.{adds_also, adds_both, adds_like, adds_nothing}
use Rattle.cedar_diagnosis.specs.Mentioned.{AddsAll, AddsMentions, extensions_in, reference_of, references_in}
use Rattle.cedar_diagnosis.specs.declared.mentions.Mentions.{Mentions}
use Rattle.cedar_diagnosis.specs.declared.mentions.WrittenReference.{WrittenReference}
use Rattle.cedar_name_resolution.proofs.SetLemmas.{HasAlso-pushed}
use Rattle.cedar_schema_ast.proofs.ExprLemmas.{raw_attribute-parts, raw_record-entries}
use Rattle.cedar_schema_ast.specs.Words.{Expr, Members, Reference, extension_expr, long_expr, member, members_from, named, no_member, raw_attribute, raw_expr, raw_record, record_expr, set_expr, text_expr, truth_expr}
use Rattle.cedar_schema_ast.specs.declared.json_schema.type_of.RecordType.{RecordType, out-RecordType}
use Rattle.cedar_schema_ast.specs.declared.json_schema.type_of.TypeOfAttribute.{TypeOfAttribute, out-TypeOfAttribute}
use Rattle.cedar_ast.specs.declared.unreserved_id.UnreservedId.{UnreservedId}
use Rattle.cedar_schema_ast.specs.declared.json_schema.raw_name.RawName.{RawName}
use Rattle.cedar_schema_semantics.specs.Words.{HasOpenRecord, MembersHaveOpenRecord, MembersMentionExtension, MembersRefer, MentionsExtension, Refers}
use Rattle.std.specs.Borrow.{Bor}

-- nothing is added where nothing stands
pub adds_none : (R : Reference → Type 0) (E : Text → Type 0) (O : Type 0) (mentions : Mentions)
    → ((reference : Reference) → ¬ R reference) → ((word : Text) → ¬ E word) → (¬ O) → AddsAll R E O mentions mentions
adds_none R E O mentions no_reference no_word not_open = record {
  references = adds_nothing R (references_in mentions) no_reference;
  extensions = adds_nothing E (extensions_in mentions) no_word;
  open_record = (λ is. inl is, elim [ inl is ↦ is | inr is ↦ absurd (not_open is) ]);
}

-- what is the same adds the same
pub adds_same : (R R' : Reference → Type 0) (E E' : Text → Type 0) (O O' : Type 0) (before after : Mentions)
    → ((reference : Reference) → R reference ↔ R' reference) → ((word : Text) → E word ↔ E' word) → (O ↔ O')
    → AddsAll R E O before after → AddsAll R' E' O' before after
adds_same R R' E E' O O' before after references words opens adds = record {
  references = adds_like R R' _ _ (λ each. (references each).0) (λ each. (references each).1) adds.references;
  extensions = adds_like E E' _ _ (λ each. (words each).0) (λ each. (words each).1) adds.extensions;
  open_record = (
    λ is. elim (adds.open_record.0 is) [ inl old ↦ inl old | inr new ↦ inr (opens.0 new) ],
    elim [ inl old ↦ adds.open_record.1 (inl old) | inr new ↦ adds.open_record.1 (inr (opens.1 new)) ],
  );
}

-- what is added, and then more, is added together
pub adds_then : (R R' : Reference → Type 0) (E E' : Text → Type 0) (O O' : Type 0) (before middle after : Mentions)
    → AddsAll R E O before middle → AddsAll R' E' O' middle after
    → AddsAll (λ reference. R reference ⊎ R' reference) (λ word. E word ⊎ E' word) (O ⊎ O') before after
adds_then R R' E E' O O' before middle after first second = record {
  references = adds_both R R' _ _ _ first.references second.references;
  extensions = adds_both E E' _ _ _ first.extensions second.extensions;
  open_record = (
    λ is. elim (second.open_record.0 is) [
      | inl there ↦ elim (first.open_record.0 there) [ inl old ↦ inl old | inr new ↦ inr (inl new) ]
      | inr new ↦ inr (inr new)
    ],
    elim [
      | inl old ↦ second.open_record.1 (inl (first.open_record.1 (inl old)))
      | inr (inl new) ↦ second.open_record.1 (inl (first.open_record.1 (inr new)))
      | inr (inr new) ↦ second.open_record.1 (inr new)
    ],
  );
}

-- one reference more
pub adds_reference : (before after : Mentions) (one : WrittenReference)
    → after.references.items ≡ before.references.items ++ one ∷ [] → after.extensions.items ≡ before.extensions.items
    → after.has_open_record ≡ before.has_open_record → AddsMentions (named (reference_of one)) before after
adds_reference before after one more extensions opens = record {
  references = adds_also (references_in before) (references_in after) (reference_of one)
      (HasAlso-pushed reference_of before.references.items after.references.items one more);
  extensions = rw (ap (map (λ (id : Bor UnreservedId). unreserved_id_text id.now)) extensions)
      (adds_nothing (MentionsExtension (named (reference_of one))) (extensions_in before) (λ word none. none));
  open_record = rw opens (λ is. inl is, elim [ inl is ↦ is | inr none ↦ absurd none ]);
}

-- one extension type more
pub adds_extension : (before after : Mentions) (one : Bor UnreservedId)
    → after.extensions.items ≡ before.extensions.items ++ one ∷ [] → after.references.items ≡ before.references.items
    → after.has_open_record ≡ before.has_open_record → AddsMentions (extension_expr (unreserved_id_text one.now)) before after
adds_extension before after one more references opens = record {
  references = rw (ap (map reference_of) references)
      (adds_nothing (Refers (extension_expr (unreserved_id_text one.now))) (references_in before) (λ reference none. none));
  extensions = adds_also (extensions_in before) (extensions_in after) (unreserved_id_text one.now)
      (HasAlso-pushed (λ (id : Bor UnreservedId). unreserved_id_text id.now) before.extensions.items after.extensions.items one more);
  open_record = rw opens (λ is. inl is, elim [ inl is ↦ is | inr none ↦ absurd none ]);
}

-- an open record more, if it is one
pub adds_open : (before after : Mentions) (is_open : Bool) → after.references.items ≡ before.references.items
    → after.extensions.items ≡ before.extensions.items → (IsTrue after.has_open_record ↔ (IsTrue before.has_open_record ⊎ IsTrue is_open))
    → AddsAll (λ reference. ⊥) (λ word. ⊥) (IsTrue is_open) before after
adds_open before after is_open references extensions opens = record {
  references = rw (ap (map reference_of) references) (adds_nothing (λ reference. ⊥) (references_in before) (λ reference none. none));
  extensions = rw (ap (map (λ (id : Bor UnreservedId). unreserved_id_text id.now)) extensions)
      (adds_nothing (λ word. ⊥) (extensions_in before) (λ word none. none));
  open_record = opens;
}

-- the attributes of a record that are listed, each with its name
abbrev pub Entries : Type 0
Entries = List (String Global × TypeOfAttribute RawName)

module _ (namespace : Option PlainName) where
  -- what the type of an attribute stands for
  abbrev pub entry_expr : String Global × TypeOfAttribute RawName → Expr
  entry_expr entry = raw_expr namespace (out-TypeOfAttribute RawName entry.1).ty

  -- of some of the attributes
  abbrev pub SomeRefers : Entries → Reference → Type 0
  SomeRefers entries reference = (entry : String Global × TypeOfAttribute RawName) × Contains entries entry × Refers (entry_expr entry) reference

  abbrev pub SomeMentions : Entries → Text → Type 0
  SomeMentions entries word = (entry : String Global × TypeOfAttribute RawName) × Contains entries entry × MentionsExtension (entry_expr entry) word

  abbrev pub SomeOpen : Entries → Type 0
  SomeOpen entries = (entry : String Global × TypeOfAttribute RawName) × Contains entries entry × HasOpenRecord (entry_expr entry)

  -- what stands in some attributes is added, and others are left
  pub record MentionedSoFar (it : RecordType RawName) (before after : Mentions) (left : Entries) : Type 0 where
    pub done : Entries
    pub split : (out-RecordType RawName it).attributes.entries ≡ done ++ left
    pub added : AddsAll (SomeRefers done) (SomeMentions done) (SomeOpen done) before after

  -- at first nothing is
  pub mentioned_none : (it : RecordType RawName) (mentions : Mentions) (left : Entries)
      → (out-RecordType RawName it).attributes.entries ≡ left → MentionedSoFar it mentions mentions left
  mentioned_none it mentions left same = record {
    done = [];
    split = same;
    added = adds_none (SomeRefers []) (SomeMentions []) (SomeOpen []) mentions
        (λ reference some. omega (arith, some.1.1)) (λ word some. omega (arith, some.1.1)) (λ some. omega (arith, some.1.1));
  }

  -- where a fact holds of one of some attributes or of one more, it holds of one of all
  one_of : (P : Expr → Type 0) (done : Entries) (one : String Global × TypeOfAttribute RawName)
      → (((entry : String Global × TypeOfAttribute RawName) × Contains done entry × P (entry_expr entry)) ⊎ P (entry_expr one))
      ↔ ((entry : String Global × TypeOfAttribute RawName) × Contains (done ++ one ∷ []) entry × P (entry_expr entry))
  one_of P done one = (
    elim [
      | inl some ↦ (some.0, Contains-append_left done (one ∷ []) some.0 some.1, some.2)
      | inr here ↦ (one, Contains-append_right done (one ∷ []) one (Contains-cons one [] one (inl refl)), here)
    ],
    λ some. elim (Contains-append_cases done (one ∷ []) some.0 some.1) [
      | inl there ↦ inl (some.0, there, some.2)
      | inr last ↦
          let Holds : String Global × TypeOfAttribute RawName → Type 0 = λ entry. P (entry_expr entry) in
          inr (subst Holds (sym (Contains-single one some.0 last)) some.2)
    ],
  )

  -- one more is
  pub mentioned_more : (it : RecordType RawName) (before middle after : Mentions) (left rest : Entries) (name : String Global)
      (attribute : TypeOfAttribute RawName) → left ≡ (name, attribute) ∷ rest
      → AddsMentions (raw_expr namespace (out-TypeOfAttribute RawName attribute).ty) middle after
      → MentionedSoFar it before middle left → MentionedSoFar it before after rest
  mentioned_more it before middle after left rest name attribute is adds so_far =
      let one : String Global × TypeOfAttribute RawName = (name, attribute) in
      let done = so_far.done in
      record {
        done = done ++ one ∷ [];
        split = so_far.split ∙ (ap (λ others. done ++ others) is ∙ sym (append_assoc done (one ∷ []) rest));
        added = adds_same (λ reference. SomeRefers done reference ⊎ Refers (entry_expr one) reference) (SomeRefers (done ++ one ∷ []))
            (λ word. SomeMentions done word ⊎ MentionsExtension (entry_expr one) word) (SomeMentions (done ++ one ∷ []))
            (SomeOpen done ⊎ HasOpenRecord (entry_expr one)) (SomeOpen (done ++ one ∷ [])) before after
            (λ reference. one_of (λ expr. Refers expr reference) done one)
            (λ word. one_of (λ expr. MentionsExtension expr word) done one)
            (one_of HasOpenRecord done one)
            (adds_then (SomeRefers done) (Refers (entry_expr one)) (SomeMentions done) (MentionsExtension (entry_expr one))
            (SomeOpen done) (HasOpenRecord (entry_expr one)) before middle after so_far.added adds);
      }

-- what holds of an attribute of a record holds of one of its pairs
some_member : (P : Expr → Type 0) (Q : Members → Type 0)
    → ((name : Text) (required : Bool) (expr : Expr) (rest : Members) → Q (member name required expr rest) → P expr ⊎ Q rest)
    → (¬ Q no_member) → (items : List (Text × (Bool × Expr))) → Q (members_from items)
    → (item : Text × (Bool × Expr)) × Contains items item × P item.1.1
some_member P Q step none [] holds = absurd (none holds)
some_member P Q step none (item ∷ items) holds =
    elim (step item.0 item.1.0 item.1.1 (members_from items) holds) [
      | inl here ↦ (item, Contains-cons item items item (inl refl), here)
      | inr later ↦
          let found = some_member P Q step none items later in (found.0, Contains-cons item items found.0 (inr found.1), found.2)
    ]

-- and what holds of one of its pairs holds of an attribute
member_of : (P : Expr → Type 0) (Q : Members → Type 0)
    → ((name : Text) (required : Bool) (expr : Expr) (rest : Members) → P expr ⊎ Q rest → Q (member name required expr rest))
    → (items : List (Text × (Bool × Expr))) (item : Text × (Bool × Expr)) → Contains items item → P item.1.1 → Q (members_from items)
member_of P Q step [] item among holds = absurd (omega (arith, among.1))
member_of P Q step (first ∷ items) item among holds =
    step first.0 first.1.0 first.1.1 (members_from items)
    (elim (Contains-cons_cases first items item among) [
      | inl here ↦
          let Holds : Text × (Bool × Expr) → Type 0 = λ each. P each.1.1 in inl (subst Holds (sym here) holds)
      | inr later ↦ inr (member_of P Q step items item later holds)
    ])

-- the pairs that the attributes of a record give
abbrev pairs : Option PlainName → Entries → List (Text × (Bool × Expr))
pairs namespace entries = map (λ entry. (string_bytes entry.0, raw_attribute namespace entry.1)) entries

module _ (namespace : Option PlainName) (P : Expr → Type 0) (Q : Members → Type 0)
    (into : (name : Text) (required : Bool) (expr : Expr) (rest : Members) → P expr ⊎ Q rest → Q (member name required expr rest))
    (out : (name : Text) (required : Bool) (expr : Expr) (rest : Members) → Q (member name required expr rest) → P expr ⊎ Q rest)
    (none : ¬ Q no_member) where
  -- what holds of one of the attributes
  some_entry : (entries : Entries)
      → ((entry : String Global × TypeOfAttribute RawName) × Contains entries entry × P (entry_expr namespace entry))
      ↔ Q (members_from (pairs namespace entries))
  some_entry entries = (
    λ some.
        let pair : Text × (Bool × Expr) = (string_bytes some.0.0, raw_attribute namespace some.0.1) in
        member_of P Q into (pairs namespace entries) pair
        (Contains-image (λ (entry : String Global × TypeOfAttribute RawName). (string_bytes entry.0, raw_attribute namespace entry.1)) entries some.0 some.1)
        (subst P (sym (ap (λ (it : Bool × Expr). it.1) (raw_attribute-parts namespace some.0.1))) some.2),
    λ holds.
        let found = some_member P Q out none (pairs namespace entries) holds in
        let entry = Contains-preimage (λ (entry : String Global × TypeOfAttribute RawName). (string_bytes entry.0, raw_attribute namespace entry.1)) entries found.0 found.1 in
        let Holds : Text × (Bool × Expr) → Type 0 = λ each. P each.1.1 in
        (entry.0, entry.1, subst P (ap (λ (it : Bool × Expr). it.1) (raw_attribute-parts namespace entry.0.1)) (subst Holds (sym entry.2) found.2)),
  )

-- where no attribute is left, and whether the record is open is noted, what stands in the record is added
pub record_mentioned : (namespace : Option PlainName) (it : RecordType RawName) (before middle after : Mentions) (left : Entries) → left ≡ []
    → MentionedSoFar namespace it before middle left
    → AddsAll (λ reference. ⊥) (λ word. ⊥) (IsTrue (out-RecordType RawName it).additional_attributes) middle after
    → AddsMentions (raw_record namespace it) before after
record_mentioned namespace it before middle after left nothing so_far opens =
    let entries = (out-RecordType RawName it).attributes.entries in
    let additional = (out-RecordType RawName it).additional_attributes in
    let done = so_far.done in
    let all : done ≡ entries = sym (so_far.split ∙ (ap (λ others. done ++ others) nothing ∙ append-nil done)) in
    let expr = record_expr (members_from (pairs namespace entries)) additional in
    let So : Entries → Type 0 = λ each. AddsAll (SomeRefers namespace each) (SomeMentions namespace each) (SomeOpen namespace each) before middle in
    let added = subst So all so_far.added in
    let Adds' : Expr → Type 0 = λ each. AddsMentions each before after in
    subst Adds' (sym (raw_record-entries namespace it))
    (adds_same (λ reference. SomeRefers namespace entries reference ⊎ ⊥) (Refers expr)
    (λ word. SomeMentions namespace entries word ⊎ ⊥) (MentionsExtension expr)
    (SomeOpen namespace entries ⊎ IsTrue additional) (HasOpenRecord expr) before after
    (λ reference.
    let same = some_entry namespace (λ each. Refers each reference) (λ each. MembersRefer each reference)
    (λ name required expr rest is. is) (λ name required expr rest is. is) (λ never. never) entries in
    (elim [ inl some ↦ same.0 some | inr never ↦ absurd never ], λ is. inl (same.1 is)))
    (λ word.
    let same = some_entry namespace (λ each. MentionsExtension each word) (λ each. MembersMentionExtension each word)
    (λ name required expr rest is. is) (λ name required expr rest is. is) (λ never. never) entries in
    (elim [ inl some ↦ same.0 some | inr never ↦ absurd never ], λ is. inl (same.1 is)))
    (let same = some_entry namespace HasOpenRecord MembersHaveOpenRecord
    (λ name required expr rest is. is) (λ name required expr rest is. is) (λ never. never) entries in
    (elim [ inl some ↦ inr (same.0 some) | inr is ↦ inl is ], elim [ inl is ↦ inr is | inr some ↦ inl (same.1 some) ]))
    (adds_then (SomeRefers namespace entries) (λ reference. ⊥) (SomeMentions namespace entries) (λ word. ⊥)
    (SomeOpen namespace entries) (IsTrue additional) before middle after added opens))

-- what is written as something adds what stands in that
pub alike_mentioned : {E : Type 0} (result : Result Unit E) (expr other : Expr) (before after : Mentions) → expr ≡ other
    → OnOk result (AddsMentions other before after) → OnOk result (AddsMentions expr before after)
alike_mentioned result expr other before after same adds =
    let Ends : Expr → Type 0 = λ each. OnOk result (AddsMentions each before after) in
    subst Ends (sym same) adds

-- a set adds what its elements do
pub set_mentioned : {E : Type 0} (result : Result Unit E) (expr element : Expr) (before after : Mentions) → expr ≡ set_expr element
    → OnOk result (AddsMentions element before after) → OnOk result (AddsMentions expr before after)
set_mentioned (Ok x) expr element before after same adds =
    let Ends : Expr → Type 0 = λ each. AddsMentions each before after in
    subst Ends (sym same)
    (adds_same (Refers element) (Refers (set_expr element)) (MentionsExtension element) (MentionsExtension (set_expr element))
    (HasOpenRecord element) (HasOpenRecord (set_expr element)) before after
    (λ reference. (λ is. is, λ is. is)) (λ word. (λ is. is, λ is. is)) (λ is. is, λ is. is) adds)
set_mentioned (Err x) expr element before after same adds = tt

-- primitive types add nothing
pub text_mentioned : (expr : Expr) (mentions : Mentions) → expr ≡ text_expr → AddsMentions expr mentions mentions
text_mentioned expr mentions same =
    rw same (adds_none (Refers text_expr) (MentionsExtension text_expr) (HasOpenRecord text_expr) mentions (λ r never. never) (λ w never. never) (λ never. never))

pub long_mentioned : (expr : Expr) (mentions : Mentions) → expr ≡ long_expr → AddsMentions expr mentions mentions
long_mentioned expr mentions same =
    rw same (adds_none (Refers long_expr) (MentionsExtension long_expr) (HasOpenRecord long_expr) mentions (λ r never. never) (λ w never. never) (λ never. never))

pub truth_mentioned : (expr : Expr) (mentions : Mentions) → expr ≡ truth_expr → AddsMentions expr mentions mentions
truth_mentioned expr mentions same =
    rw same (adds_none (Refers truth_expr) (MentionsExtension truth_expr) (HasOpenRecord truth_expr) mentions (λ r never. never) (λ w never. never) (λ never. never))
