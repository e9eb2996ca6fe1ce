-- Calls of functions whose signatures are known.
use Rattle.std.proofs.Common.{[], refl}
use Rattle.cedar_ast.proofs.TreeLemmas.{ArgumentsFit-no_types}
use Rattle.rule_examples.specs.Words.{Extensions, Gives, PlainName, TakesText, Text, Trees, text_value, tree}

-- a function that takes a text gives a value where its first argument is one
pub Gives-text : (extensions : Extensions) (name ty : PlainName) (word : Text) (rest : Trees)
    → TakesText extensions name ty → Gives extensions name (tree (text_value word) rest) ty
Gives-text extensions name ty word rest takes =
    (takes.0, takes.1, takes.2, rw takes.3 (tt, ArgumentsFit-no_types extensions [] rest refl))
