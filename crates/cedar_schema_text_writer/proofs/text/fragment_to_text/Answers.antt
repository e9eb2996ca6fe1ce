use Rattle.std.proofs.Common.{◌∷◌, ap, subst, ◌∙◌}
use Rattle.std.proofs.lemmas.Result.{err_from_is_err_and}
use Rattle.cedar_name_resolution.specs.Words.{held_names}
use Rattle.cedar_schema_ast.specs.Words.{raw_bag}
use Rattle.cedar_schema_text_writer.proofs.NamesGiven.{first_same}
use Rattle.cedar_schema_text_writer.specs.Flaws.{IsFaultOf, IsWritable, fragment_flaw}
use Rattle.cedar_schema_text_writer.specs.Layout.{fragment_pieces}
use Rattle.cedar_schema_text_writer.specs.Names.{First, names_of_bag}
use Rattle.cedar_schema_text_writer.specs.Pieces.{text_of}
use Rattle.cedar_schema_text_writer.proofs.text.fragment_to_text.Goals as goal

pub returns-in_err-check_fragment-clause-refused : goal.returns-in_err-check_fragment-clause-refused
returns-in_err-check_fragment-clause-refused c =
    let p = err_from_is_err_and c.from_residual-in_err-check_fragment.result c.from_residual-in_err-check_fragment.ensures.1 in
    rw (p.1, p.2)
    (subst (λ (first : First). IsFaultOf (fragment_flaw first c.args.fragment.now) c.in_err-check_fragment.field-0.0)
    (first_same (held_names c.in_ok-known.known) (names_of_bag (raw_bag (c.args.fragment.now ∷ c.args.beside.now))) c.in_ok-known.ensures)
    c.in_err-check_fragment.ensures)

pub returns-clause-text : goal.returns-clause-text
returns-clause-text c =
    c.in_ok-written.ensures
    ∙ ap (λ (first : First). text_of (fragment_pieces first c.args.fragment.now))
    (first_same (held_names c.in_ok-known.known) (names_of_bag (raw_bag (c.args.fragment.now ∷ c.args.beside.now))) c.in_ok-known.ensures)

pub returns-clause-writable : goal.returns-clause-writable
returns-clause-writable c =
    subst (λ (first : First). IsWritable first c.args.fragment.now)
    (first_same (held_names c.in_ok-known.known) (names_of_bag (raw_bag (c.args.fragment.now ∷ c.args.beside.now))) c.in_ok-known.ensures)
    c.in_ok-check_fragment.ensures
