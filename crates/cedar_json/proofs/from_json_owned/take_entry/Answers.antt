use Rattle.std.proofs.Common.{Some, ap, inl, inr, option_and_then}
use Rattle.std.proofs.lemmas.Result.{err_from_is_err_and}
use Rattle.cedar_json.proofs.from_json_owned.take_entry.Goals as goal
use Rattle.json.specs.Value.{value_view}

-- the refused key is that of the member at the index
pub returns-in_err-key : goal.returns-in_err-key
returns-in_err-key g c =
    let p = err_from_is_err_and c.from_residual.result c.from_residual.ensures.1 in
    rw (p.1, p.2) (λ other. inl (c.in_err-key.ensures.0 other), λ j is. c.in_err-key.ensures.1 j (value_view c.args.member.1) is)

-- the fault of the member's value is found in the object at the index
pub returns-in-Err : goal.returns-in-Err
returns-in-Err g c = (
  λ other. inr (c.in-Err.ensures.0 (c.behind.ensures.memory other)),
  λ j is. c.behind.ensures.place j (value_view c.args.member.1) (ap (option_and_then (λ m. Some m.1)) is) c.in-Err.ensures.1,
)

-- the entry that was put is the key and the value that were read
pub returns-in_ok-put-in-Ok : goal.returns-in_ok-put-in-Ok
returns-in_ok-put-in-Ok g c = ((c.in_ok-key.key, c.in-Ok.it), c.in_ok-key.ensures, c.in-Ok.ensures, c.in_ok-put-in-Ok.ensures)
