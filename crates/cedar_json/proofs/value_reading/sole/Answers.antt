use Rattle.std.proofs.Common.{◌≢◌, length, sym, arith}
use Rattle.cedar_json.proofs.ValueLemmas.{sole_held-many}
use Rattle.cedar_json.proofs.value_reading.sole.Goals as goal

pub returns-then-len-ne1 : goal.returns-then-len-ne1
returns-then-len-ne1 c =
    let many : length c.args.members.now.items ≢ 1 = grind arith in
    sym (sole_held-many c.args.name.now c.args.members.now.items many)
