use Rattle.std.proofs.Common.{rules, ◌≡◌, ◌+◌, Some, chars, map-id, string_bytes, sym, ap, ◌∙◌}
use Rattle.std.proofs.lemmas.Iterator.{YieldsList-from_chars}
use Rattle.std.proofs.lemmas.Iterator.Consumers.{YieldsList-end, YieldsList-so_far, YieldsList-turn}
use Rattle.std.proofs.lemmas.Str.{IsUtf8-string_bytes}
use Rattle.std.specs.Char.{len_utf8}
use Rattle.cedar_ast.proofs.EscapeReading.{HasReadId-like, HasReadId-more, HasReadId-whole, characters_by, closed_id, counted_within, stops_at_char, stops_at_id_end}
use Rattle.cedar_ast.proofs.escape.read_id.Goals as goal
use Rattle.cedar_ast.proofs.escape.read_id.Goals.{in-Some-whole+in_ok-push, in_default}
use Rattle.cedar_ast.specs.Escapes.{escape_then}

-- the reading stops at the first character that can't follow
pub returns-in-None-then-clause-fault : goal.returns-in-None-then-clause-fault
returns-in-None-then-clause-fault c =
    let road = YieldsList-from_chars c.args.text.now c.utf8.text cc in
    let so_far = YieldsList-so_far road c.loop-c.yielded _ c.loop-c.yielded_by in
    let turn = YieldsList-turn road c.loop-c.yielded _ c.loop-c.yielded_by _ _ c.in-Some.c c.in-Some.is c.next.ensures.steps in
    let split = characters_by c.args.text.now c.loop-c.yielded c.in-Some.c c.utf8.text so_far turn in
    stops_at_char c.args.text.now c.loop-c.escape (string_bytes c.loop-c.id) c.loop-c.at c.loop-c.yielded split.0 c.in-Some.c c.utf8.text
    (IsUtf8-string_bytes c.loop-c.id) split.1 c.loop-c.invariant (sym c.then.ensures ∙ c.in-None-then.is)

-- the place stays within the text
pub overflow_add-at : goal.overflow_add-at
overflow_add-at c =
    let road = YieldsList-from_chars c.args.text.now c.utf8.text cc in
    let so_far = YieldsList-so_far road c.loop-c.yielded _ c.loop-c.yielded_by in
    let turn = YieldsList-turn road c.loop-c.yielded _ c.loop-c.yielded_by _ _ c.in-Some.c c.in-Some.is c.next.ensures.steps in
    let split = characters_by c.args.text.now c.loop-c.yielded c.in-Some.c c.utf8.text so_far turn in
    let value = c.len_utf8-at.ensures.value in
    let within = counted_within c.args.text.now c.loop-c.yielded split.0 c.in-Some.c c.loop-c.at c.utf8.text split.1 c.loop-c.invariant.count in
    search (rules, within, value)

-- a character ends an escape or goes on with it
pub loop-c-preserved : goal.loop-c-preserved
loop-c-preserved c =
    let goes : escape_then c.loop-c.escape c.in-Some.c ≡ Some c.in-Some-then.next = sym c.then.ensures ∙ c.in-Some-then.is in
    let count : c.loop-c.at + len_utf8 c.in-Some.c ≡ c.loop-c.at + c.len_utf8-at.result = ap (λ n. c.loop-c.at + n) (sym c.len_utf8-at.ensures.value) in
    elim c.match-whole.branch [
      | in-Some-whole+in_ok-push w ↦ HasReadId-like (sym w.in_ok-push.ensures.bytes ∙ ap string_bytes (sym w.id-is)) count
          (HasReadId-whole c.loop-c.escape (string_bytes c.loop-c.id) c.loop-c.at c.loop-c.yielded c.in-Some.c c.in-Some-then.next w.in-Some-whole.whole
          c.loop-c.invariant goes (sym c.whole.ensures ∙ w.in-Some-whole.is))
      | in_default w ↦ HasReadId-like (ap string_bytes (sym w.id-is)) count
          (HasReadId-more c.loop-c.escape (string_bytes c.loop-c.id) c.loop-c.at c.loop-c.yielded c.in-Some.c c.in-Some-then.next
          c.loop-c.invariant goes (sym c.whole.ensures ∙ w.in_default.is))
    ]

-- a text that ends with its quote is an id
pub returns-in-Closed-clause-id : goal.returns-in-Closed-clause-id
returns-in-Closed-clause-id c =
    let road = YieldsList-from_chars c.args.text.now c.utf8.text cc in
    let end = YieldsList-end road c.loop-c.yielded _ c.loop-c.yielded_by _ _ c.in-None.is c.next.ensures.steps in
    let all : c.loop-c.yielded ≡ chars c.args.text.now = sym (map-id c.loop-c.yielded) ∙ end.0 in
    closed_id c.args.text.now (string_bytes c.loop-c.id) c.loop-c.at c.utf8.text (IsUtf8-string_bytes c.loop-c.id)
    (rw (c.in-Closed.is, all) at c.loop-c.invariant)

-- one that ends before it stops at its end
pub returns-in_default-escape : goal.returns-in_default-escape
returns-in_default-escape c =
    let road = YieldsList-from_chars c.args.text.now c.utf8.text cc in
    let end = YieldsList-end road c.loop-c.yielded _ c.loop-c.yielded_by _ _ c.in-None.is c.next.ensures.steps in
    let all : c.loop-c.yielded ≡ chars c.args.text.now = sym (map-id c.loop-c.yielded) ∙ end.0 in
    record {
      id = tt;
      fault = stops_at_id_end c.args.text.now c.loop-c.escape (string_bytes c.loop-c.id) c.loop-c.at c.utf8.text (IsUtf8-string_bytes c.loop-c.id)
          (rw all at c.loop-c.invariant) c.in_default-escape.not-Closed;
    }
