use Rattle.std.proofs.Common.{◌≡◌, IsSome, List, ℕ, ap, string_bytes, subst, sym, ◌∙◌}
use Rattle.std.proofs.lemmas.Bool.{false≢true}
use Rattle.std.proofs.lemmas.Result.{err_from_is_err_and}
use Rattle.cedar_json_writer.proofs.WritingLemmas.{flaw_left}
use Rattle.cedar_json_writer.proofs.WrittenDefinitions.{fragment_free}
use Rattle.cedar_json_writer.proofs.WrittenText.{deep_text, described_text, writable_text, written_alone}
use Rattle.cedar_json_writer.proofs.text.fragment_to_json.Goals as goal
use Rattle.cedar_json_writer.specs.Words.{fragment_document, nesting_flaws, parts_flaws, written_fragment}
use Rattle.json.specs.Json.{document}
use Rattle.json.specs.Layout.{pretty}
use Rattle.json.specs.Lex.{tokens}
use Rattle.json.specs.Tree.{json_tokens}

-- the tokens are those of the fragment's document
pub returns-then-branch-clause-text : goal.returns-then-branch-clause-text
returns-then-branch-clause-text c =
    c.text_of-text.ensures.layout ∙ ap pretty (written_alone c.new-out.result c.write.new.out
    (fragment_document (written_fragment c.args.fragment.now)) c.new-out.ensures c.in_ok-write.ensures.written)

-- no part has a flaw, and as the text is valid JSON the fragment doesn't nest too deep
pub returns-then-branch-clause-writable : goal.returns-then-branch-clause-writable
returns-then-branch-clause-writable c =
    let it = written_fragment c.args.fragment.now in
    let text = string_bytes c.text_of-text.result in
    let written : tokens text ≡ json_tokens (fragment_document it) =
    c.text_of-text.ensures.tokens ∙ written_alone c.new-out.result c.write.new.out (fragment_document it) c.new-out.ensures
    c.in_ok-write.ensures.written in
    let valid : IsSome (document text) = subst (λ (bytes : List ℕ). IsSome (document bytes)) c.as_str.ensures.value (c.in_ok-is_valid.ensures.ok.0 c.if-branch.true) in
    writable_text text it written c.in_ok-write.ensures.checked.flawless valid

-- the text is valid JSON and has the tokens of the fragment's document, so it describes the
-- fragment
pub returns-then-branch-clause-described : goal.returns-then-branch-clause-described
returns-then-branch-clause-described c =
    let it = written_fragment c.args.fragment.now in
    let text = string_bytes c.text_of-text.result in
    let written : tokens text ≡ json_tokens (fragment_document it) =
    c.text_of-text.ensures.tokens ∙ written_alone c.new-out.result c.write.new.out (fragment_document it) c.new-out.ensures
    c.in_ok-write.ensures.written in
    let valid : IsSome (document text) = subst (λ (bytes : List ℕ). IsSome (document bytes)) c.as_str.ensures.value (c.in_ok-is_valid.ensures.ok.0 c.if-branch.true) in
    described_text text it c.text_of-text.ensures.utf8 written (fragment_free c.args.fragment.now.0.entries c.in_ok-write.ensures.checked) valid

-- the text isn't valid JSON, so the fragment nests too deep
pub returns-else-branch-clause-fault : goal.returns-else-branch-clause-fault
returns-else-branch-clause-fault c =
    let it = written_fragment c.args.fragment.now in
    let text = string_bytes c.text_of-text.result in
    let written : tokens text ≡ json_tokens (fragment_document it) =
    c.text_of-text.ensures.tokens ∙ written_alone c.new-out.result c.write.new.out (fragment_document it) c.new-out.ensures
    c.in_ok-write.ensures.written in
    deep_text text it written (λ some. false≢true (sym c.if-branch.false
    ∙ c.in_ok-is_valid.ensures.ok.1 (subst (λ (bytes : List ℕ). IsSome (document bytes)) (sym c.as_str.ensures.value) some)))

-- what can't be written of a part can't be of the fragment
pub returns-in_err-write-clause-fault : goal.returns-in_err-write-clause-fault
returns-in_err-write-clause-fault c =
    let it = written_fragment c.args.fragment.now in
    let p = err_from_is_err_and c.from_residual.result c.from_residual.ensures.1 in
    rw (p.1, p.2) (flaw_left (parts_flaws it) (nesting_flaws it) _ c.in_err-write.ensures.checked)
