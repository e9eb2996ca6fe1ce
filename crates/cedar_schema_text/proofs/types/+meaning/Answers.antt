use Rattle.std.proofs.Common.{◌≡◌, suc, List, IfOk, IfErr, OnOk, ◌+◌, ◌*◌, ◌<◌, ◌≤◌, ◌++◌, [], false, map, Some, string_bytes, ap, ap₂, sym, subst, ◌∙◌, refl, arith, rules}
use Rattle.std.proofs.lemmas.Result.{err_from_is_err_and}
use Rattle.std.specs.String.{string_cmp}
use Rattle.cedar_ast.specs.Words.{text_cmp}
use Rattle.cedar_schema_grammar.proofs.Turns.{view-Record}
use Rattle.cedar_schema_grammar.specs.Plain.{attribute_of, name_of, type_of}
use Rattle.cedar_schema_grammar.specs.Tree.{attributes_from, level, level_of_all, record_of}
use Rattle.cedar_schema_text.proofs.Among.{among_at, among_left, among_right}
use Rattle.cedar_schema_text.proofs.SoFar.{put_all, put_more}
use Rattle.cedar_schema_text.proofs.TypeLemmas.{attributes_each, attributes_entries, entry_of, faults_of, level_at, names_written, shown-attributes, view-Set}
use Rattle.cedar_schema_text.specs.Faults.{Fault, IsAmong, attribute_names, attributes_faults, repeats, type_faults}
use Rattle.cedar_schema_text.specs.Meaning.{in_order, type_meant}
use Rattle.cedar_schema_text.specs.Named.{named}
use Rattle.cedar_schema_text.specs.Placed.{fields_from, record_type}
use Rattle.cedar_schema_text.specs.Shown.{attribute_shown, type_shown}
use Rattle.cedar_schema_text.specs.declared.fault.Repeated.TheVariants as repeated
use Rattle.cedar_schema_text.proofs.types.+meaning.Goals as goal

-- an attribute is no higher than all of its record
pub attributes-attribute-requires : goal.attributes-attribute-requires
attributes-attribute-requires t c =
    let all = attributes_from (map attribute_of c.args.written.now) in
    let below : level (type_of c.one-item.result.of) ≤ level_of_all all =
    level_at c.args.written.now c.loop-one.one-index c.one-item.result c.loop-one-test.true c.one-item.is in
    let smaller : 4 * level (type_of c.one-item.result.of) + 1 < 4 * level_of_all all + 2 = omega (arith, below) in
    search rules

-- a set is one level above its element
pub type_of-type_of-requires : goal.type_of-type_of-requires
type_of-type_of-requires t c =
    let is = ap (λ ty. level (type_of ty)) c.in-Set.is ∙ ap level (view-Set c.in-Set.inner) in
    let e : level (type_of c.args.ty.now) ≡ suc (level (type_of c.deref.result.now)) = is ∙ ap (λ ty. suc (level (type_of ty))) (sym c.deref.ensures) in
    let smaller : 4 * level (type_of c.deref.result.now) < 4 * level (type_of c.args.ty.now) = omega (arith, e) in
    search rules

-- a record is one level above its attributes
pub type_of-record-requires : goal.type_of-record-requires
type_of-record-requires t c =
    let all = attributes_from (map attribute_of c.deref-in-Record.result.now) in
    let is = ap (λ ty. level (type_of ty)) c.in-Record.is ∙ ap level (view-Record c.in-Record.written c.in-Record.loc) in
    let e : level (type_of c.args.ty.now) ≡ suc (level_of_all all) =
    is ∙ ap (λ xs. suc (level_of_all (attributes_from (map attribute_of xs)))) (sym c.deref-in-Record.ensures.value) in
    let smaller : 4 * level_of_all all + 3 < 4 * level (type_of c.args.ty.now) = omega (arith, e) in
    search rules

-- a fault of one attribute is among those of all
pub attributes-returns-in_err-meaning-clause-fault : goal.attributes-returns-in_err-meaning-clause-fault
attributes-returns-in_err-meaning-clause-fault t c =
    let all = map attribute_of c.args.written.now in
    let e = c.in_err-meaning.field-0.0 in
    let p = err_from_is_err_and c.from_residual.result c.from_residual.ensures.1 in
    rw (p.1, p.2) (subst (λ faults. IsAmong faults e) (sym (attributes_each all))
    (among_at faults_of attribute_of c.args.written.now c.loop-one.one-index c.one-item.result e c.loop-one-test.true c.one-item.is
    c.in_err-meaning.ensures.fault))

-- one more attribute is put under its name
pub attributes-loop-one-preserved : goal.attributes-loop-one-preserved
attributes-loop-one-preserved t c =
    put_more attribute_of faults_of entry_of string_cmp text_cmp string_bytes attribute_shown (λ a b. refl) c.args.written.now c.loop-one.one-index
    c.one-item.result c.loop-one.all.entries c.put.new.map.entries c.in_ok-from_str.field-0 c.in_ok-meaning.meaning c.loop-one-test.true c.one-item.is
    c.in_ok-meaning.ensures.none (c.in_ok-from_str.ensures.ok ∙ c.as_str.ensures.value) c.in_ok-meaning.ensures.meant c.in_ok-put.ensures c.loop-one.invariant

pub attributes-returns-clause-meant : goal.attributes-returns-clause-meant
attributes-returns-clause-meant t c =
    (put_all attribute_of faults_of entry_of string_cmp text_cmp string_bytes attribute_shown (λ a b. refl) c.args.written.now c.loop-one.one-index
    c.loop-one.all.entries c.loop-one-test.false c.loop-one.invariant).same
    ∙ ap (in_order text_cmp) (sym (attributes_entries (map attribute_of c.args.written.now)))

pub attributes-returns-clause-none : goal.attributes-returns-clause-none
attributes-returns-clause-none t c =
    attributes_each (map attribute_of c.args.written.now)
    ∙ (put_all attribute_of faults_of entry_of string_cmp text_cmp string_bytes attribute_shown (λ a b. refl) c.args.written.now c.loop-one.one-index
    c.loop-one.all.entries c.loop-one-test.false c.loop-one.invariant).none

-- an attribute that stands twice is a fault of the record
pub record-returns-in_err-check_once-clause-fault : goal.record-returns-in_err-check_once-clause-fault
record-returns-in_err-check_once-clause-fault t c =
    let all = attributes_from (map attribute_of c.args.written.now) in
    let e = c.in_err-check_once.field-0.0 in
    let same = ap (map named) c.deref.ensures.value ∙ c.in_ok-attribute_names.ensures ∙ sym (names_written c.args.written.now) in
    let p = err_from_is_err_and c.from_residual-in_err-check_once.result c.from_residual-in_err-check_once.ensures.1 in
    rw (p.1, p.2) (among_left (repeats repeated.Attribute (attribute_names all)) (attributes_faults all) e
    (subst (λ names. IsAmong (repeats repeated.Attribute names) e) same c.in_err-check_once.ensures.fault))

pub record-returns-in_err-attributes-clause-fault : goal.record-returns-in_err-attributes-clause-fault
record-returns-in_err-attributes-clause-fault t c =
    let all = attributes_from (map attribute_of c.args.written.now) in
    let p = err_from_is_err_and c.from_residual-in_err-attributes.result c.from_residual-in_err-attributes.ensures.1 in
    rw (p.1, p.2) (among_right (repeats repeated.Attribute (attribute_names all)) (attributes_faults all) c.in_err-attributes.field-0.0 c.in_err-attributes.ensures.fault)

pub record-returns-clause-meant : goal.record-returns-clause-meant
record-returns-clause-meant t c =
    shown-attributes c.in_ok-attributes.field-0 false (Some c.args.loc)
    ∙ ap (λ entries. record_type (fields_from entries) false (Some c.args.loc)) c.in_ok-attributes.ensures.meant

pub record-returns-clause-none : goal.record-returns-clause-none
record-returns-clause-none t c =
    let same = ap (map named) c.deref.ensures.value ∙ c.in_ok-attribute_names.ensures ∙ sym (names_written c.args.written.now) in
    ap₂ (λ (a : List Fault) (b : List Fault). a ++ b) (ap (repeats repeated.Attribute) (sym same) ∙ c.in_ok-check_once.ensures.none) c.in_ok-attributes.ensures.none

-- a record type is what its attributes are
pub type_of-returns-in-Record-clause-meant : goal.type_of-returns-in-Record-clause-meant
type_of-returns-in-Record-clause-meant t c =
    let is = ap (λ all. record_of (attributes_from (map attribute_of all)) c.in-Record.loc) c.deref-in-Record.ensures.value
    ∙ sym (ap type_of c.in-Record.is ∙ view-Record c.in-Record.written c.in-Record.loc) in
    subst (λ ty. IfOk c.record.result (λ it. type_shown it ≡ type_meant ty)) is c.record.ensures.meant

pub type_of-returns-in-Record-clause-none : goal.type_of-returns-in-Record-clause-none
type_of-returns-in-Record-clause-none t c =
    let is = ap (λ all. record_of (attributes_from (map attribute_of all)) c.in-Record.loc) c.deref-in-Record.ensures.value
    ∙ sym (ap type_of c.in-Record.is ∙ view-Record c.in-Record.written c.in-Record.loc) in
    subst (λ ty. OnOk c.record.result (type_faults ty ≡ [])) is c.record.ensures.none

pub type_of-returns-in-Record-clause-fault : goal.type_of-returns-in-Record-clause-fault
type_of-returns-in-Record-clause-fault t c =
    let is = ap (λ all. record_of (attributes_from (map attribute_of all)) c.in-Record.loc) c.deref-in-Record.ensures.value
    ∙ sym (ap type_of c.in-Record.is ∙ view-Record c.in-Record.written c.in-Record.loc) in
    subst (λ ty. IfErr c.record.result (IsAmong (type_faults ty))) is c.record.ensures.fault
