use Rattle.std.proofs.Common.{Some, ap, option_and_then}
use Rattle.cedar_json.proofs.gathering.put_read.Goals as goal

-- what was read is put under the key
pub returns-in_ok-put-in-Ok : goal.returns-in_ok-put-in-Ok
returns-in_ok-put-in-Ok g c =
    rw c.in-Ok.is (c.in_ok-from_str-in-Ok.field-0, c.in_ok-from_str-in-Ok.ensures.ok, c.in_ok-put-in-Ok.ensures)

-- the refusal is found in the object at the index
pub returns-in-Err : goal.returns-in-Err
returns-in-Err g c =
    rw c.in-Err.is (c.behind.ensures.memory, λ j k is. c.behind.ensures.place j k (ap (option_and_then (λ m. Some m.1)) is))
