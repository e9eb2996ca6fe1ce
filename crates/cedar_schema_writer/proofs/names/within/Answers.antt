use Rattle.std.proofs.Common.{◌≡◌, ◌++◌, List, [], ◌∷◌, Some, ap, sym, subst, ◌∙◌, map}
use Rattle.std.proofs.lemmas.Bool.{false≢true}
use Rattle.std.proofs.lemmas.List.{map-append}
use Rattle.cedar_schema_writer.proofs.NameLemmas.{within-unreserved}
use Rattle.cedar_schema_writer.proofs.names.within.Goals as goal
use Rattle.cedar_schema_writer.specs.Words.{IsReserved, PlainName, Text, id_text, name_of, name_within, plain_name}

pub unreachable-requires : goal.unreachable-requires
unreachable-requires c =
    let namespace = plain_name c.args.namespace.now in
    let name = plain_name c.args.name.now in
    let base : id_text c.new.result.parts.value.id ≡ name.base = c.new.ensures.base ∙ (c.in_ok-clone-2.ensures ∙ c.basename-2.ensures) in
    let path : map id_text c.new.result.parts.value.path.items ≡ namespace.path ++ namespace.base ∷ [] =
    c.new.ensures.path ∙ (ap (map id_text) c.in_ok-push.ensures.items
    ∙ (map-append id_text c.in_ok-path.path.items (c.in_ok-clone.field-0 ∷ [])
    ∙ (λ i. (c.in_ok-path.ensures ∙ c.path.ensures) i ++ (c.in_ok-clone.ensures ∙ c.basename.ensures) i ∷ []))) in
    let same : name_within (Some namespace) name.base ≡ name_of c.new.result =
    (λ i. let word : Text = sym base i in let words : List Text = sym path i in record { base = word; path = words }) in
    let IsFree : PlainName → Type 0 = λ it. ¬ IsReserved it in
    false≢true (c.in-None.ensures.valid.1 (subst IsFree same
    (within-unreserved namespace name.base c.args.namespace.now.unreserved (λ is. c.args.name.now.unreserved
    (Rattle.std.proofs.Common.inl is)))))
