use Rattle.std.specs.Prelude.{◌≡◌, ℤ, Bool, false, List, [], ◌∷◌, Some, None}
use Rattle.cedar_ast.specs.Words.{Entries, Gives, Included, PlainName, PlainUid, Text, Tree, Trees, call_value, entry_at, entry_names, map_value, no_tree, number_value, set_value, text_value, tree, truth_value, uid_value}
use Rattle.cedar_ast.specs.declared.extension.Extensions.{Extensions}
use Rattle.cedar_schema_ast.specs.Words.{Expr, Members, Reference, extension_expr, long_expr, member, named, no_member, record_expr, set_expr, text_expr, truth_expr}
use Rattle.cedar_schema_semantics.specs.Defined.{Defined, IsCommon, names_of}
use Rattle.cedar_schema_semantics.specs.Names.{ResolvesTo, IsEntity}

-- the names of a record's attributes
abbrev pub member_names : Members → List Text
member_names no_member = []
member_names (member name required expr rest) = name ∷ member_names rest

mutual
  -- the expression admits the value: each admits its own kind of value, a record no attribute that
  -- it doesn't list, an entity type each uid of it, an extension type the calls that give a value
  -- of it, and a common type whatever its definition admits; a name that is both is taken as the
  -- common type (RFC 24)
  pub data Admits (defined : Defined) (extensions : Extensions) : Tree → Expr → Type 0 where
    admits_text : (it : Text) → Admits defined extensions (text_value it) text_expr
    admits_long : (it : ℤ) → Admits defined extensions (number_value it) long_expr
    admits_truth : (it : Bool) → Admits defined extensions (truth_value it) truth_expr
    admits_set : {values : Trees} {element : Expr} → AdmitsEach defined extensions values element
        → Admits defined extensions (set_value values) (set_expr element)
    admits_record : {values : Entries} {members : Members} {additional : Bool}
        → Included (entry_names values) (member_names members)
        → AdmitsMembers defined extensions values members
        → Admits defined extensions (map_value values) (record_expr members additional)
    admits_entity : (uid : PlainUid) (reference : Reference)
        → ResolvesTo (names_of defined) reference uid.ty
        → IsEntity (names_of defined) reference.kind uid.ty
        → ((body : Expr) → ¬ IsCommon defined reference.kind uid.ty body)
        → Admits defined extensions (uid_value uid) (named reference)
    admits_common : {value : Tree} (reference : Reference) (name : PlainName) (body : Expr)
        → ResolvesTo (names_of defined) reference name → IsCommon defined reference.kind name body
        → Admits defined extensions value body → Admits defined extensions value (named reference)
    admits_extension : (function : PlainName) (args : Trees) (name : Text)
        → Gives extensions function args (record { base = name; path = [] })
        → Admits defined extensions (call_value function args) (extension_expr name)

  -- the expression admits each value
  pub data AdmitsEach (defined : Defined) (extensions : Extensions) : Trees → Expr → Type 0 where
    admits_none : {expr : Expr} → AdmitsEach defined extensions no_tree expr
    admits_first : {value : Tree} {values : Trees} {expr : Expr}
        → Admits defined extensions value expr
        → AdmitsEach defined extensions values expr
        → AdmitsEach defined extensions (tree value values) expr

  -- the listed attributes are admitted where they are there, and those that are required are there
  pub data AdmitsMembers (defined : Defined) (extensions : Extensions) : Entries → Members
      → Type 0 where
    admits_no_member : {values : Entries} → AdmitsMembers defined extensions values no_member
    admits_missing : {values : Entries} {name : Text} {expr : Expr} {rest : Members}
        → entry_at name values ≡ None
        → AdmitsMembers defined extensions values rest
        → AdmitsMembers defined extensions values (member name false expr rest)
    admits_there : {values : Entries} {name : Text} {required : Bool} {expr : Expr} {rest : Members}
        (value : Tree)
        → entry_at name values ≡ Some value → Admits defined extensions value expr
        → AdmitsMembers defined extensions values rest
        → AdmitsMembers defined extensions values (member name required expr rest)
