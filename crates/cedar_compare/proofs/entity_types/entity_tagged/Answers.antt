use Rattle.std.proofs.Common.{◌≡◌, ◌∷◌, [], List, ap, map, string_bytes, string_cmp, subst, sym, ◌∙◌}
use Rattle.std.specs.BTreeMap.{insert_entry}
use Rattle.std.specs.declared.alloc.Global.{Global}
use Rattle.std.specs.declared.string.String.{String}
use Rattle.cedar_ast.proofs.Basics.{Contains-none}
use Rattle.cedar_ast.proofs.ValueCopies.{uid_real}
use Rattle.cedar_compare.proofs.entity_types.entity_tagged.Goals as goal
use Rattle.cedar_compare.specs.Words.{IsFreshIn, IsValue, PlainUid, Text, Value, entries_from, entry, named_values, new_of, no_entry, tree_of, type_name, uid_of, uid_value, value_expr, value_tree}

pub returns : goal.returns
returns c =
    let Pairs : Type 0 = List (String Global × Value) in
    let tag = c.args.tag in
    let put : c.insert.new.self.entries ≡ (c.new.result, tag) ∷ [] =
    c.in_ok-_none.ensures.entries ∙ ap (λ (es : Pairs). insert_entry string_cmp es c.new.result tag) c.new-tags.ensures.empty in
    let values = ap (λ (es : Pairs). entries_from (map (λ it. (string_bytes it.0, tree_of (value_expr it.1))) es)) put in
    record {
      fresh = subst (IsFreshIn (new_of c.args.versions.now) (type_name c.args.name.now)) (sym c.new-3.ensures.uid) c.in_ok-uid.ensures.fresh;
      real = subst (λ (u : PlainUid). IsValue (uid_value u)) (sym c.new-3.ensures.uid) (uid_real c.in_ok-uid.uid);
      attributes_are = ap named_values c.new-3.ensures.attrs;
      tags_are = ap named_values c.new-3.ensures.tags ∙ (values ∙ ap (λ (name : Text). entry name (value_tree tag) no_entry) c.new.ensures.bytes);
      ancestors_are = c.new-3.ensures.ancestors ∙ ap (map uid_of) c.new-2.ensures.empty;
      not_itself = Contains-none _;
    }
