use Rattle.std.proofs.Common.{◌≡◌, ◌++◌, ◌-◌, length, List, [], ◌∷◌, sym, subst, ◌∙◌, map, take}
use Rattle.cedar_schema_writer.proofs.NameLemmas.{found_path, front_and_last, path-unreserved}
use Rattle.cedar_schema_writer.proofs.names.namespace_of.Goals as goal
use Rattle.cedar_schema_writer.specs.Words.{IsReserved, PlainName, Text, id_text, name_of, plain_name}

pub returns-in_ok-clone-in-len1-up : goal.returns-in_ok-clone-in-len1-up
returns-in_ok-clone-in-len1-up c =
    let ids = c.path.result.now in
    let last = id_text c.base-item.result in
    let front = map id_text (take (length ids - 1) ids) in
    let name = plain_name c.args.name.now in
    let path : name.path ≡ front ++ last ∷ [] =
    sym c.path.ensures ∙ front_and_last ids c.base-item.result c.in-len1-up.len_at_least c.base-item.is in
    let full : PlainName = record { base = last; path = front } in
    let base_is = c.new.ensures.base ∙ c.in_ok-clone-in-len1-up.ensures in
    let path_is = c.new.ensures.path ∙ c.in_ok-path-in-len1-up.ensures in
    let same : full ≡ name_of c.new.result =
    (λ i. let word : Text = sym base_is i in let words : List Text = sym path_is i in record { base = word; path = words }) in
    let IsFree : PlainName → Type 0 = λ it. ¬ IsReserved it in
    let allowed = subst IsFree same (path-unreserved name.base last front (rw path at c.args.name.now.unreserved)) in
    rw path (found_path c.new-in-len1-up.result full (c.new-in-len1-up.ensures.valid.1 allowed)
    (rw same c.new-in-len1-up.ensures.name))
