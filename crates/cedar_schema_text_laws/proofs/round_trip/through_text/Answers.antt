use Rattle.std.proofs.Common.{◌≡◌, ◌^◌, inl, inr, length, subst, sym, ◌∙◌, IsUtf8}
use Rattle.cedar_ast.specs.Words.{Text}
use Rattle.cedar_schema_text.specs.Shown.{fragment_shown}
use Rattle.cedar_schema_text.specs.TextFormat.{StandsFor}
use Rattle.cedar_schema_text_laws.proofs.ReadBack.{below_or_not, is_memory, reads_back, stands_for_form, text_written}
use Rattle.cedar_schema_text_writer.specs.Names.{first_beside}
use Rattle.cedar_schema_text_laws.proofs.round_trip.through_text.Goals as goal

pub returns-in-Ok-fragment_from_text-clause-form : goal.returns-in-Ok-fragment_from_text-clause-form
returns-in-Ok-fragment_from_text-clause-form c =
    let it = c.args.fragment.now in
    let read = c.in-Ok-fragment_from_text.it in
    let first = first_beside it c.args.beside.now in
    let same : c.deref.result.now ≡ text_written first it = c.deref.ensures ∙ c.in-Ok.ensures.text in
    let stands = subst (λ (text : Text). StandsFor c.args.source text (fragment_shown read)) same c.in-Ok-fragment_from_text.ensures.fragment in
    reads_back c.args.source first it read c.fragment_holds.ensures c.in-Ok.ensures.writable stands.is_utf8 stands.is_short stands

pub returns-clause-lost : goal.returns-clause-lost
returns-clause-lost c =
    let it = c.args.fragment.now in
    let first = first_beside it c.args.beside.now in
    let refusal = c.in-Err-fragment_from_text.fault in
    let same : c.deref.result.now ≡ text_written first it = c.deref.ensures ∙ c.in-Ok.ensures.text in
    let utf8 = subst IsUtf8 same c.deref.utf8 in
    elim (below_or_not (length (text_written first it)) (2 ^ 32)) [
      | inr above ↦ inl above
      | inl below ↦
          let form = stands_for_form c.args.source first it c.fragment_holds.ensures c.in-Ok.ensures.writable utf8 below in
          let stands = subst (λ (text : Text). StandsFor c.args.source text form.0) (sym same) form.1 in
          elim (is_memory refusal) [ inl memory ↦ inr memory | inr other ↦ absurd (c.in-Err-fragment_from_text.ensures.exact other form.0 stands) ]
    ]
