use Rattle.std.proofs.Common.{◌≡◌, None, Some, List, ap, subst, sym, ◌∙◌, Contains}
use Rattle.std.proofs.lemmas.Option.{same_Some}
use Rattle.cedar_compare.proofs.fresh.longest_choice_of.Goals as goal
use Rattle.cedar_compare.specs.Words.{SchemaEntityType, Text, choice_texts, kind_choices, plain_type, type_name}

pub returns-in-Some-choices_of : goal.returns-in-Some-choices_of
returns-in-Some-choices_of c = λ it choices id there are among.
    let ty = plain_type c.in-Some.ty.now in
    let same = ap (λ (t : SchemaEntityType). kind_choices t.kind) (c.requires.types (type_name c.args.name.now) ty it c.in-Some.ensures there) in
    let texts = choice_texts c.in-Some-choices_of.choices.now in
    let is : Some texts ≡ Some choices = c.in-Some-choices_of.ensures ∙ (same ∙ are) in
    c.longest_choice.ensures id (subst (λ (xs : List Text). Contains xs id) (sym (same_Some texts choices is)) among)

pub returns-in-None-choices_of : goal.returns-in-None-choices_of
returns-in-None-choices_of c = λ it choices id there are among.
    let ty = plain_type c.in-Some.ty.now in
    let same = ap (λ (t : SchemaEntityType). kind_choices t.kind) (c.requires.types (type_name c.args.name.now) ty it c.in-Some.ensures there) in
    let wrong : None ≡ Some choices = c.in-None-choices_of.ensures ∙ (same ∙ are) in
    absurd cc

pub returns-in-None : goal.returns-in-None
returns-in-None c = λ it choices id there are among. absurd (c.in-None.ensures it there)
