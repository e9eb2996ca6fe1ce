use Rattle.std.proofs.Common.{◌≡◌, ◌++◌, codes, Some, None, arith, string_bytes, sym, ap, ◌∙◌}
use Rattle.std.proofs.lemmas.Str.{IsUtf8-string_bytes}
use Rattle.std.proofs.lemmas.Str.Pattern.{split_parts}
use Rattle.cedar_ast.proofs.TextsOfNames.{IsOfIdentifiers-name_of}
use Rattle.cedar_ast.proofs.UidReading.{fault_before_quote, fault_without_quote, no_quote_by_bytes, stops_in_id, uid_by_parts}
use Rattle.cedar_ast.proofs.entity_uid.EntityUID.from_str.Goals as goal
use Rattle.cedar_ast.specs.Words.{escaped_text, name_of, name_text, uid_of}

-- a text without a quote is no uid
pub returns-in_default-clause-fault : goal.returns-in_default-clause-fault
returns-in_default-clause-fault c =
    let others = split_parts 34 c.args.text.now None c.in_default.ensures.cases (omega arith) in
    fault_without_quote c.args.text.now c.type_fault.result (no_quote_by_bytes c.args.text.now others) c.type_fault.ensures

-- nor is one with no type before its quote
pub returns-in_default-2-clause-fault : goal.returns-in_default-2-clause-fault
returns-in_default-2-clause-fault c =
    let parts = split_parts 34 c.args.text.now (Some (c.in-Some.before, c.in-Some.after)) c.in-Some.ensures.cases (omega arith) in
    let none = rw c.in_default-2.is at c.in_ok-name.ensures in
    rw parts.0 (fault_before_quote c.in-Some.before.now c.in-Some.after.now c.type_fault-in_default-2.result (no_quote_by_bytes c.in-Some.before.now parts.1)
    none c.type_fault-in_default-2.ensures)

-- or one whose id stops after the quote
pub returns-in-Err-NotAName-clause-fault : goal.returns-in-Err-NotAName-clause-fault
returns-in-Err-NotAName-clause-fault c =
    let parts = split_parts 34 c.args.text.now (Some (c.in-Some.before, c.in-Some.after)) c.in-Some.ensures.cases (omega arith) in
    let named = rw c.in-Some-2.is at c.in_ok-name.ensures in
    rw parts.0 (stops_in_id (name_of c.in-Some-2.name) c.in-Some.before.now c.in-Some.after.now c.in-Err-NotAName.at (IsOfIdentifiers-name_of c.in-Some-2.name)
    named.0
    (rw c.in-Err-NotAName.field-0-is at c.in-Err-NotAName.ensures.fault))

-- the type and the id that were read make the uid
pub returns-in-Ok-from_internal-clause-uid : goal.returns-in-Ok-from_internal-clause-uid
returns-in-Ok-from_internal-clause-uid c =
    let parts = split_parts 34 c.args.text.now (Some (c.in-Some.before, c.in-Some.after)) c.in-Some.ensures.cases (omega arith) in
    let named = rw c.in-Some-2.is at c.in_ok-name.ensures in
    let ty : name_of c.in-Some-2.name ≡ (uid_of c.new.result).ty = sym c.in-Ok-from_internal.ensures.name ∙ sym c.new.ensures.ty in
    uid_by_parts (uid_of c.new.result) c.in-Some.before.now c.in-Some.after.now
    (named.0 ∙ ap (λ name. name_text name ++ codes "::") ty)
    (ap (λ eid. escaped_text eid ++ codes "\"") c.new.ensures.eid ∙ c.in-Ok.ensures.id) ∙ sym parts.0

-- a type with a reserved name is refused
pub returns-clause-fault : goal.returns-clause-fault
returns-clause-fault c =
    let parts = split_parts 34 c.args.text.now (Some (c.in-Some.before, c.in-Some.after)) c.in-Some.ensures.cases (omega arith) in
    let named = rw c.in-Some-2.is at c.in_ok-name.ensures in (
      record { ty = name_of c.in-Some-2.name; eid = string_bytes c.in-Ok.id },
      IsOfIdentifiers-name_of c.in-Some-2.name,
      c.in-Err-from_internal.ensures.refused.1,
      IsUtf8-string_bytes c.in-Ok.id,
      uid_by_parts (record { ty = name_of c.in-Some-2.name; eid = string_bytes c.in-Ok.id }) c.in-Some.before.now c.in-Some.after.now named.0
          c.in-Ok.ensures.id ∙ sym parts.0,
    )
