use Rattle.std.proofs.Common.{◌≡◌, ◌-◌, List, [], ◌∷◌, ◌++◌, drop, take, length, map, ap, subst, ◌∙◌, refl, rules, arith}
use Rattle.std.proofs.lemmas.List.{take_all}
use Rattle.cedar_schema_text_layout.specs.Relaid.{GoesOn, IsListEnd}
use Rattle.cedar_schema_text_layout.specs.declared.edited.Edited.{Edited}
use Rattle.cedar_schema_tokens.specs.Spelled.{spelled_of}
use Rattle.cedar_schema_tokens.specs.declared.spelled.Spelled as code
use Rattle.cedar_schema_text_layout.proofs.SoFar.{goes_on_without_comma}
use Rattle.cedar_schema_text_layout.proofs.edited.Edited.push_without_comma.Goals as goal

by_list : (old new : Edited) (all : List code.Spelled) → IsListEnd (map spelled_of all) → new.items.items ≡ old.items.items ++ drop 1 all
    → new.end ≡ length new.items.items → GoesOn old (map spelled_of all) new
by_list old new [] list_end items end = absurd (let never = list_end.3 in cc)
by_list old new (comma ∷ rest) list_end items end = goes_on_without_comma old new comma rest list_end items end

whole : (all : List code.Spelled) → take (length all - 1) (drop 1 all) ≡ drop 1 all
whole [] = refl
whole (x ∷ xs) = take_all (length (x ∷ xs) - 1) xs (omega arith)

pub returns : goal.returns
returns c = by_list c.args.self.now _ c.args.list_end.now c.requires.is
    (c.in_ok-extend_from_slice.ensures.items ∙ ap (λ xs. c.args.self.now.items.items ++ xs) (whole c.args.list_end.now)) (search rules)
