use Rattle.std.specs.Prelude.{◌≡◌, ◌⊎◌, IsTrue}
use Rattle.cedar_ast.specs.Text.{Text}
use Rattle.cedar_schema_ast.specs.Words.{Expr, Members, Reference, extension_expr, long_expr, member, named, no_member, record_expr, set_expr, text_expr, truth_expr}

abbrev mutual
  -- a record that admits attributes which it doesn't list stands in the expression
  pub HasOpenRecord : Expr → Type 0
  HasOpenRecord (set_expr element) = HasOpenRecord element
  HasOpenRecord (record_expr members additional) = IsTrue additional ⊎ MembersHaveOpenRecord members
  HasOpenRecord (named reference) = ⊥
  HasOpenRecord (extension_expr name) = ⊥
  HasOpenRecord text_expr = ⊥
  HasOpenRecord long_expr = ⊥
  HasOpenRecord truth_expr = ⊥

  -- the same of some attribute of a record
  pub MembersHaveOpenRecord : Members → Type 0
  MembersHaveOpenRecord no_member = ⊥
  MembersHaveOpenRecord (member name required expr rest) =
      HasOpenRecord expr ⊎ MembersHaveOpenRecord rest

abbrev mutual
  -- the reference stands in the expression
  pub Refers : Expr → Reference → Type 0
  Refers (set_expr element) reference = Refers element reference
  Refers (record_expr members additional) reference = MembersRefer members reference
  Refers (named other) reference = other ≡ reference
  Refers (extension_expr name) reference = ⊥
  Refers text_expr reference = ⊥
  Refers long_expr reference = ⊥
  Refers truth_expr reference = ⊥

  -- the same of some attribute of a record
  pub MembersRefer : Members → Reference → Type 0
  MembersRefer no_member reference = ⊥
  MembersRefer (member name required expr rest) reference =
      Refers expr reference ⊎ MembersRefer rest reference

abbrev mutual
  -- the extension type of that base name stands in the expression
  pub MentionsExtension : Expr → Text → Type 0
  MentionsExtension (set_expr element) word = MentionsExtension element word
  MentionsExtension (record_expr members additional) word = MembersMentionExtension members word
  MentionsExtension (named reference) word = ⊥
  MentionsExtension (extension_expr name) word = name ≡ word
  MentionsExtension text_expr word = ⊥
  MentionsExtension long_expr word = ⊥
  MentionsExtension truth_expr word = ⊥

  -- the same of some attribute of a record
  pub MembersMentionExtension : Members → Text → Type 0
  MembersMentionExtension no_member word = ⊥
  MembersMentionExtension (member name required expr rest) word = MentionsExtension expr word
      ⊎ MembersMentionExtension rest word
