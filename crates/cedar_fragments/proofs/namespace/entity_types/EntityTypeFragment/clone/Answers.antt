use Rattle.std.proofs.Common.{◌++◌, ap, sym, ◌∙◌}
use Rattle.cedar_fragments.proofs.CopyLemmas.{refer_same, locate_same}
use Rattle.cedar_fragments.proofs.namespace.entity_types.EntityTypeFragment.clone.Goals as goal
use Rattle.cedar_fragments.specs.Words.{entity_fragment_locs, external, fragment_body, standard}
use Rattle.cedar_schema_ast.specs.declared.json_schema.reference_type.ReferenceType.TheVariants.{Entity as entity}

pub returns-in_ok-copied_tags-in-Standard : goal.returns-in_ok-copied_tags-in-Standard
returns-in_ok-copied_tags-in-Standard g c =
    let N = g.row.N.Denot in
    let parents = c.in-Standard.parents.items in
    let copies = c.in_ok-copied_names-in-Standard.field-0.items in
    let alike = c.in_ok-copied_names-in-Standard.ensures in
    record {
      body = λ refer fair.
          (λ i. standard (refer_same N g.N.FragmentName.is_alike refer fair entity parents copies alike i)
          (c.in_ok-clone-in-Standard.ensures.written refer fair i) (c.in_ok-copied_tags-in-Standard.ensures.written refer fair i))
          ∙ sym (ap (fragment_body N refer) c.in-Standard.is);
      locs = λ locs fair.
          (λ i. c.in_ok-clone-in-Standard.ensures.locs locs fair i
          ++ locate_same N g.N.FragmentName.is_alike locs fair parents copies alike i
          ++ c.in_ok-copied_tags-in-Standard.ensures.locs locs fair i)
          ∙ sym (ap (entity_fragment_locs N locs) c.in-Standard.is);
    }

pub returns-in_ok-parents-in-External : goal.returns-in_ok-parents-in-External
returns-in_ok-parents-in-External g c =
    let N = g.row.N.Denot in
    let parents = c.in-External.parents.items in
    let copies = c.in_ok-parents-in-External.parents.items in
    let alike = c.in_ok-parents-in-External.ensures in
    record {
      body = λ refer fair.
          ap external (refer_same N g.N.FragmentName.is_alike refer fair entity parents copies alike)
          ∙ sym (ap (fragment_body N refer) c.in-External.is);
      locs = λ locs fair.
          locate_same N g.N.FragmentName.is_alike locs fair parents copies alike
          ∙ sym (ap (entity_fragment_locs N locs) c.in-External.is);
    }
