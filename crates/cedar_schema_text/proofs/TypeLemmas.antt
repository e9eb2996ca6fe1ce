-- Types and attributes.
use Rattle.std.proofs.Common.{◌≡◌, ℕ, zero, suc, ◌<◌, ◌≤◌, length, get_or, arith, Bool, List, [], ◌∷◌, ◌++◌, map, Option, BTreeMap, String, Global, string_bytes, refl, ap, ap₂, sym, ◌∙◌, rules}
use Rattle.std.specs.List.{flat_map}
use Rattle.std.specs.declared.boxed.Box.{Box}
use Rattle.std.proofs.lemmas.List.{get_or-map, length-map}
use Rattle.std.proofs.lemmas.Simd.{map-map}
use Rattle.cedar_ast.specs.Words.{Text}
use Rattle.cedar_ast.specs.declared.loc.Loc.{Loc}
use Rattle.cedar_schema_grammar.specs.Plain.{attribute_of, name_of, type_of}
use Rattle.cedar_schema_grammar.specs.Tree as tree
use Rattle.cedar_schema_grammar.specs.Tree.{attributes_from, level, level_of_all, set_of}
use Rattle.cedar_schema_grammar.specs.declared.tree.Attribute as code
use Rattle.cedar_schema_grammar.specs.declared.tree.Type as code_type
use Rattle.cedar_schema_grammar.specs.declared.tree.Type.TheVariants as code_variants
use Rattle.cedar_schema_text.specs.Faults.{Fault, attribute_names, attributes_faults, repeats, type_faults}
use Rattle.cedar_schema_text.specs.Meaning.{attribute_at, attributes_meant, type_meant}
use Rattle.cedar_schema_text.specs.Placed.{AttributeAt, CommonTypeAt, TypeAt, fields_from, record_type}
use Rattle.cedar_schema_text.specs.Shown.{Unplaced, attribute_step, attributes_shown, record_shown, record_step, type_shown, type_step, variant_shown, variant_step}
use Rattle.cedar_schema_text.specs.declared.fault.Repeated.TheVariants as repeated
use Rattle.cedar_schema_ast.specs.declared.json_schema.raw_name.RawName.{RawName}
use Rattle.cedar_schema_ast.specs.declared.json_schema.type_of.RecordType.{RecordType, fold-roll-RecordType, roll-RecordType}
use Rattle.cedar_schema_ast.specs.declared.json_schema.type_of.Type.{Plain, the_lemmas, «Type»}
use Rattle.cedar_schema_ast.specs.declared.json_schema.type_of.TypeVariant.{Record, TypeVariant}
use Rattle.cedar_schema_ast.specs.declared.json_schema.type_of.Type.TheOpen as layer
use Rattle.cedar_schema_ast.specs.declared.json_schema.type_of.TypeOfAttribute.{TypeOfAttribute}

-- ---- what is written

-- an attribute by itself stands for an entry
abbrev pub entry_of : tree.Attribute → Text × AttributeAt
entry_of a = (a.name.text, attribute_at a.name a.is_required (type_meant a.of))

-- and has faults
abbrev pub faults_of : tree.Attribute → List Fault
faults_of a = repeats repeated.Annotation a.annotations ++ type_faults a.of

pub attributes_entries : (all : List tree.Attribute) → attributes_meant (attributes_from all) ≡ map entry_of all
attributes_entries [] = refl
attributes_entries (a ∷ all) = ap (λ more. entry_of a ∷ more) (attributes_entries all)

pub attributes_each : (all : List tree.Attribute) → attributes_faults (attributes_from all) ≡ flat_map faults_of all
attributes_each [] = refl
attributes_each (a ∷ all) = ap (λ more. faults_of a ++ more) (attributes_each all)

pub attributes_named : (all : List tree.Attribute) → attribute_names (attributes_from all) ≡ map (λ a. a.name) all
attributes_named [] = refl
attributes_named (a ∷ all) = ap (λ more. a.name ∷ more) (attributes_named all)

abbrev pub Written : Type 0
Written = List (code.Attribute code_type.Type)

-- the names of attributes of the code
pub names_written : (written : Written) → attribute_names (attributes_from (map attribute_of written)) ≡ map (λ a. name_of a.name) written
names_written [] = refl
names_written (a ∷ written) = ap (λ more. name_of a.name ∷ more) (names_written written)

-- a type is no higher than all attributes
level_item : (all : List tree.Attribute) (i : ℕ) (a : tree.Attribute) → i < length all → a ≡ get_or all i a
    → level a.of ≤ level_of_all (attributes_from all)
level_item [] i a lt is = absurd (omega (arith, lt))
level_item (b ∷ all) zero a lt is =
    let same : level a.of ≡ level b.of = ap (λ (x : tree.Attribute). level x.of) is in
    omega (arith, same)
level_item (b ∷ all) (suc i) a lt is =
    let rest = level_item all i a (omega (arith, lt)) is in
    omega (arith, rest)

pub level_at : (written : Written) (i : ℕ) (x : code.Attribute code_type.Type) → i < length written → x ≡ get_or written i x
    → level (type_of x.of) ≤ level_of_all (attributes_from (map attribute_of written))
level_at written i x lt is =
    let within : i < length (map attribute_of written) = rw length-map lt in
    level_item (map attribute_of written) i (attribute_of x) within (ap attribute_of is ∙ sym (get_or-map attribute_of written i x (attribute_of x) lt))

-- what a set type stands for
pub view-Set : (element : Box code_type.Type Global) → type_of (code_variants.Set element) ≡ set_of (type_of element.value)
view-Set element = search (rules, code_type.the_lemmas)

-- ---- what is made

abbrev Made : Type 0
Made = layer.RecordType-F RawName («Type» RawName) (TypeVariant RawName) (RecordType RawName) (TypeOfAttribute RawName)

-- what a type stands for that is made of a variant
pub shown-Plain : (ty : TypeVariant RawName) (loc : Option Loc) → type_shown (Plain ty loc) ≡ variant_shown ty loc
shown-Plain ty loc = search (rules, the_lemmas)

pub shown-Record : (it : RecordType RawName) (loc : Option Loc) → variant_shown (Record it) loc ≡ record_shown it loc
shown-Record it loc = search (rules, the_lemmas)

-- a record that is made of attributes
record-made : (it : Made) (loc : Option Loc)
    → record_shown (roll-RecordType RawName it) loc ≡ record_type (fields_from (attributes_shown it.attributes)) it.additional_attributes loc
record-made it loc =
    ap (λ f. f loc) (fold-roll-RecordType RawName TypeAt Unplaced Unplaced AttributeAt type_step variant_step record_step attribute_step it)
    ∙ ap (λ entries. record_type (fields_from entries) it.additional_attributes loc) (map-map _ _ _)

-- a type that is made of attributes
pub shown-attributes : (attributes : BTreeMap (String Global) (TypeOfAttribute RawName)) (additional : Bool) (loc : Option Loc)
    → type_shown (Plain (Record (roll-RecordType RawName (record { attributes = attributes; additional_attributes = additional }))) loc)
    ≡ record_type (fields_from (attributes_shown attributes)) additional loc
shown-attributes attributes additional loc =
    shown-Plain (Record (roll-RecordType RawName (record { attributes = attributes; additional_attributes = additional }))) loc
    ∙ shown-Record (roll-RecordType RawName (record { attributes = attributes; additional_attributes = additional })) loc
    ∙ record-made (record { attributes = attributes; additional_attributes = additional }) loc

-- a common type by its parts
abbrev pub common_at : TypeAt → Option Loc → CommonTypeAt
common_at ty loc = record { ty = ty; loc = loc }
