-- What checks find, one after another.
use Rattle.std.proofs.Common.{◌≡◌, Bool, true, false, cond, Option, None, Result, Err, List, [], ◌∷◌, ap, sym, subst, ◌∙◌}
use Rattle.std.specs.Option.{option_or}
use Rattle.std.specs.declared.alloc.Global.{Global}
use Rattle.std.specs.declared.string.String.{String}
use Rattle.cedar_ast.specs.Words.{PlainName}
use Rattle.cedar_schema_ast.proofs.ExprLemmas.{raw_record-entries}
use Rattle.cedar_schema_ast.specs.PlainMembers.{plain_members}
use Rattle.cedar_schema_ast.specs.Words.{members_from, raw_attribute, raw_record}
use Rattle.cedar_schema_ast.specs.declared.json_schema.raw_name.RawName.{RawName}
use Rattle.cedar_schema_ast.specs.declared.json_schema.type_of.RecordType.{RecordType, out-RecordType}
use Rattle.cedar_schema_ast.specs.declared.json_schema.type_of.TypeOfAttribute.{TypeOfAttribute}
use Rattle.cedar_schema_text_writer.proofs.Written.{Entries}
use Rattle.cedar_schema_text_writer.specs.Flaws.{Checks, Found, IsFaultOf, Judges, form_flaw, members_flaw, open_flaw}
use Rattle.cedar_schema_text_writer.specs.Names.{First}
use Rattle.cedar_schema_text_writer.specs.declared.fault.Part.{Part}
use Rattle.cedar_schema_text_writer.specs.declared.fault.TextWriteFault.{TextWriteFault}
use Rattle.cedar_schema_text_writer.specs.declared.fault.TextWriteFault.TheVariants as fault
use Rattle.cedar_schema_text_writer.specs.declared.stop.Flaw.{Flaw}
use Rattle.cedar_schema_text_writer.specs.declared.stop.Stop.{Stop}
use Rattle.cedar_schema_text_writer.specs.declared.stop.Stop.TheVariants as stop

-- nothing is found before another thing
pub found_later : {A : Type 0} (flaw other : Option A) → flaw ≡ None → option_or flaw other ≡ other
found_later flaw other none = ap (λ it. option_or it other) none

-- a check that stops does so whatever comes later
pub stops_first : (flaw other : Option Flaw) (why : Stop) → Checks flaw (Err why) → Checks (option_or flaw other) (Err why)
stops_first flaw other (stop.Flaw it) found = ap (λ one. option_or one other) found
stops_first flaw other stop.Memory found = tt

-- a check is one of two by a test
pub checks_where : (test : Bool) (flaw other : Option Flaw) (result : Result (Unit {0}) Stop) → test ≡ true → Checks flaw result
    → Checks (cond test flaw other) result
checks_where test flaw other result is checked = subst (λ (b : Bool). Checks (cond b flaw other) result) (sym is) checked

pub checks_else : (test : Bool) (flaw other : Option Flaw) (result : Result (Unit {0}) Stop) → test ≡ false → Checks other result
    → Checks (cond test flaw other) result
checks_else test flaw other result is checked = subst (λ (b : Bool). Checks (cond b flaw other) result) (sym is) checked

-- a check behind one that finds nothing decides
pub checks_later : (flaw other : Option Flaw) (result : Result (Unit {0}) Stop) → flaw ≡ None → Checks other result → Checks (option_or flaw other) result
checks_later flaw other result none is = subst (λ (it : Option Flaw). Checks it result) (sym (found_later flaw other none)) is

pub judged_later : (flaw other : Option Found) (result : Result (Unit {0}) TextWriteFault) → flaw ≡ None → Judges other result → Judges (option_or flaw other) result
judged_later flaw other result none is = subst (λ (it : Option Found). Judges it result) (sym (found_later flaw other none)) is

-- a refusal names the first thing, whatever comes later
pub refused_first : (flaw other : Option Found) (refusal : TextWriteFault) → IsFaultOf flaw refusal → IsFaultOf (option_or flaw other) refusal
refused_first flaw other (fault.Unwritable what place) found = ap (λ one. option_or one other) found
refused_first flaw other fault.Memory found = tt

-- where none are left, nothing is found in all
pub nothing_left : {D : Type 0} (found : List D → Option Found) (all left : List D) → found left ≡ found all → left ≡ [] → found [] ≡ None
    → found all ≡ None
nothing_left found all left so_far none empty = sym so_far ∙ (ap found none ∙ empty)

-- what is found of all things is what is found of those that are left
module _ {D : Type 0} (found : List D → Option Found) (one : Option Found) (all left rest : List D) (more : found left ≡ option_or one (found rest))
    (so_far : found left ≡ found all) where
  -- where nothing is found in the next, the others are left
  pub nothing_next : one ≡ None → found rest ≡ found all
  nothing_next none = sym (found_later one (found rest) none) ∙ (sym more ∙ so_far)

  -- where the next is refused, all are
  pub refused_next : (refusal : TextWriteFault) → IsFaultOf one refusal → IsFaultOf (found all) refusal
  refused_next refusal is =
      subst (λ (flaw : Option Found). IsFaultOf flaw refusal) (sym more ∙ so_far) (refused_first one (found rest) refusal is)

module _ (first : First) (in_part : Part) (namespace : Option PlainName) where
  -- what can't be written of some attributes
  abbrev pub entries_flaw : Entries → Option Flaw
  entries_flaw entries = members_flaw first in_part (members_from (plain_members namespace entries))

  -- what can't be written of an attribute
  abbrev pub attribute_flaw : TypeOfAttribute RawName → Option Flaw
  attribute_flaw attribute = form_flaw first in_part (raw_attribute namespace attribute).1

  -- an attribute stands before the others
  pub entries_flaw-more : (name : String Global) (attribute : TypeOfAttribute RawName) (left rest : Entries) → left ≡ (name, attribute) ∷ rest
      → entries_flaw left ≡ option_or (attribute_flaw attribute) (entries_flaw rest)
  entries_flaw-more name attribute left rest is = ap entries_flaw is

  -- what can't be written of a closed record
  pub record_flaw : (it : RecordType RawName) → (out-RecordType RawName it).additional_attributes ≡ false
      → entries_flaw (out-RecordType RawName it).attributes.entries ≡ form_flaw first in_part (raw_record namespace it)
  record_flaw it closed =
      let all : Option Flaw = entries_flaw (out-RecordType RawName it).attributes.entries in
      sym (ap (form_flaw first in_part) (raw_record-entries namespace it)
      ∙ ap (λ (open_to_more : Bool). option_or (open_flaw in_part open_to_more) all) closed)
