-- The JSON values that entities and requests are written as, and what can't be written of them.
use Rattle.std.specs.Prelude.{List, [], ◌∷◌, ◌++◌, Option, Some, None, codes, map}
use Rattle.cedar_ast.specs.Words.{PlainUid, uid_text}
use Rattle.cedar_json.specs.ValueFormat.{Pairs}
use Rattle.cedar_json_writer.specs.Flaws.{Flaw, pairs_flaws}
use Rattle.cedar_json_writer.specs.FragmentDocument.{pairs_document}
use Rattle.cedar_json_writer.specs.ValueDocument.{uid_document}
use Rattle.cedar_json_writer.specs.WrittenFields.{optional_member}
use Rattle.json.specs.Json.{Json, string, array, object, no_members, member}
use Rattle.json.specs.Value.{items_of}

-- what is written in a field for tags: nothing where there are none
abbrev pub tags_held : Pairs → Option Json
tags_held [] = None
tags_held (first ∷ rest) = Some (pairs_document (first ∷ rest))

-- the array of some uids
abbrev pub uid_array : List PlainUid → Json
uid_array uids = array (items_of (map uid_document uids))

-- the object of an entity, over its uid, its attributes, its ancestors and its tags
abbrev pub entity_document : PlainUid → Pairs → List PlainUid → Pairs → Json
entity_document uid attributes ancestors tags =
    object (member (codes "uid") (uid_document uid)
    (member (codes "attrs") (pairs_document attributes)
    (member (codes "parents") (uid_array ancestors)
    (optional_member (codes "tags") (tags_held tags) no_members))))

-- what can't be written of an entity, over its attributes and its tags
abbrev pub entity_flaws : Pairs → Pairs → List Flaw
entity_flaws attributes tags = pairs_flaws attributes ++ pairs_flaws tags

-- the object of a request, over its principal, its action, its resource and its context
abbrev pub request_document : PlainUid → PlainUid → PlainUid → Pairs → Json
request_document principal action resource context =
    object (member (codes "principal") (string (uid_text principal))
    (member (codes "action") (string (uid_text action))
    (member (codes "resource") (string (uid_text resource))
    (member (codes "context") (pairs_document context) no_members))))
