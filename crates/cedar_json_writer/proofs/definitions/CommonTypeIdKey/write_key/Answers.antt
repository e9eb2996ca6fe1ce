use Rattle.std.proofs.Common.{◌≡◌, ◌++◌, ◌∷◌, [], List, OnOk, ℕ, subst}
use Rattle.cedar_json_writer.proofs.definitions.CommonTypeIdKey.write_key.Goals as goal
use Rattle.json.specs.Token.{key}

pub returns : goal.returns
returns c =
    subst (λ (text : List ℕ). OnOk c.token.result (c.token.new.self ≡ c.args.out.now ++ key text ∷ [])) c.as_str.ensures.text c.token.ensures.ok
