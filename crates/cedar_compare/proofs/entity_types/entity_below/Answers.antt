use Rattle.std.proofs.Common.{◌≡◌, ◌∷◌, [], List, length, ap, arith, map, subst, sym, ◌∙◌}
use Rattle.std.specs.BTreeSet.{insert_key}
use Rattle.cedar_ast.proofs.Basics.{Contains-single}
use Rattle.cedar_ast.proofs.ValueCopies.{uid_real}
use Rattle.cedar_ast.specs.contracts.entity_uid.EntityUIDOrd.TheImpl as uid_ord
use Rattle.cedar_compare.proofs.entity_types.entity_below.Goals as goal
use Rattle.cedar_compare.specs.Words.{EntityUID, IsFreshIn, IsValue, PlainUid, named_values, new_of, type_name, uid_of, uid_value}
use Rattle.cedar_schema_elements.proofs.EntityLemmas.{no_values}

pub returns : goal.returns
returns c =
    let upper = c.in_ok-clone.field-0 in
    let put : c.insert.new.self.keys ≡ upper ∷ [] =
    c.in_ok-_new.ensures.keys ∙ ap (λ (keys : List EntityUID). insert_key (uid_ord.ghosts).cmp keys upper) c.new-ancestors.ensures.empty in
    record {
      fresh = subst (IsFreshIn (new_of c.args.versions.now) (type_name c.args.name.now)) (sym c.new.ensures.uid) c.in_ok-uid.ensures.fresh;
      real = subst (λ (u : PlainUid). IsValue (uid_value u)) (sym c.new.ensures.uid) (uid_real c.in_ok-uid.uid);
      attributes_are = ap named_values c.new.ensures.attrs;
      tags_are = ap named_values c.new.ensures.tags ∙ no_values c.new-tags.result c.new-tags.ensures.empty;
      ancestors_are = c.new.ensures.ancestors ∙ (ap (map uid_of) put ∙ ap (λ u. u ∷ []) c.in_ok-clone.ensures.uid);
      not_itself = λ itself.
          let above = uid_of c.args.upper.now in
          let same : above ≡ uid_of c.in_ok-uid.uid = Contains-single above _ itself ∙ c.new.ensures.uid in
          let long = c.length_apart.ensures (ap (λ (u : PlainUid). u.ty) same ∙ c.in_ok-uid.ensures.fresh.ty) in
          let lengths : length above.eid ≡ length (uid_of c.in_ok-uid.uid).eid = ap (λ (u : PlainUid). length u.eid) same in
          omega (arith, c.in_ok-uid.ensures.longer, long, lengths);
    }
