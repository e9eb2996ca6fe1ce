-- The extension types of Cedar, and their functions.
use Rattle.std.specs.BTreeMap.{BTreeMap, is_at}
use Rattle.std.specs.Map.{lookup}
use Rattle.std.specs.Prelude.{List, [], ◌∷◌, Option, Some, codes, map}
use Rattle.cedar_ast.specs.Words.{CoreTy, PlainName, Text, argument_types, core_extension, core_long, core_text, core_truth, name_cmp, plain_name, result_type}
use Rattle.cedar_ast.specs.declared.extension.ExtensionFunction.{ExtensionFunction}
use Rattle.cedar_ast.specs.declared.name.Name.{Name}

-- what a function takes and gives: the types of its arguments in order, and that of its result
abbrev pub Signature : Type 0
Signature = List CoreTy × Option CoreTy

-- what a function takes and gives
abbrev pub signature : ExtensionFunction → Signature
signature function = (argument_types function, result_type function)

-- the functions of a map by name, each with what it takes and gives
abbrev pub signatures : BTreeMap Name ExtensionFunction → List (PlainName × Signature)
signatures functions = map (λ entry. (plain_name entry.0, signature entry.1)) functions.entries

-- the name without a path
abbrev pub unqualified : Text → PlainName
unqualified base = record { base = base; path = [] }

-- the names of Cedar's extension types
abbrev pub cedar_type_names : List PlainName
cedar_type_names = map unqualified
    (codes "ipaddr" ∷ codes "decimal" ∷ codes "datetime" ∷ codes "duration" ∷ [])

-- the types as types of arguments and results
abbrev pub ip : CoreTy
ip = core_extension (unqualified (codes "ipaddr"))

abbrev pub decimal : CoreTy
decimal = core_extension (unqualified (codes "decimal"))

abbrev pub datetime : CoreTy
datetime = core_extension (unqualified (codes "datetime"))

abbrev pub duration : CoreTy
duration = core_extension (unqualified (codes "duration"))

-- the functions of Cedar's extension types, in the order of their names
abbrev pub cedar_functions : List (PlainName × Signature)
cedar_functions =
    (unqualified (codes "datetime"), (core_text ∷ [], Some datetime))
    ∷ (unqualified (codes "decimal"), (core_text ∷ [], Some decimal))
    ∷ (unqualified (codes "duration"), (core_text ∷ [], Some duration))
    ∷ (unqualified (codes "durationSince"), (datetime ∷ datetime ∷ [], Some duration))
    ∷ (unqualified (codes "greaterThan"), (decimal ∷ decimal ∷ [], Some core_truth))
    ∷ (unqualified (codes "greaterThanOrEqual"), (decimal ∷ decimal ∷ [], Some core_truth))
    ∷ (unqualified (codes "ip"), (core_text ∷ [], Some ip))
    ∷ (unqualified (codes "isInRange"), (ip ∷ ip ∷ [], Some core_truth))
    ∷ (unqualified (codes "isIpv4"), (ip ∷ [], Some core_truth))
    ∷ (unqualified (codes "isIpv6"), (ip ∷ [], Some core_truth))
    ∷ (unqualified (codes "isLoopback"), (ip ∷ [], Some core_truth))
    ∷ (unqualified (codes "isMulticast"), (ip ∷ [], Some core_truth))
    ∷ (unqualified (codes "lessThan"), (decimal ∷ decimal ∷ [], Some core_truth))
    ∷ (unqualified (codes "lessThanOrEqual"), (decimal ∷ decimal ∷ [], Some core_truth))
    ∷ (unqualified (codes "offset"), (datetime ∷ duration ∷ [], Some datetime))
    ∷ (unqualified (codes "toDate"), (datetime ∷ [], Some datetime))
    ∷ (unqualified (codes "toDays"), (duration ∷ [], Some core_long))
    ∷ (unqualified (codes "toHours"), (duration ∷ [], Some core_long))
    ∷ (unqualified (codes "toMilliseconds"), (duration ∷ [], Some core_long))
    ∷ (unqualified (codes "toMinutes"), (duration ∷ [], Some core_long))
    ∷ (unqualified (codes "toSeconds"), (duration ∷ [], Some core_long))
    ∷ (unqualified (codes "toTime"), (datetime ∷ [], Some duration))
    ∷ []

-- what the function of a name takes and gives, where there is one
abbrev pub cedar_function : PlainName → Option Signature
cedar_function name = lookup (is_at (name_cmp name)) cedar_functions
