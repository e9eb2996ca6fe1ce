use Rattle.std.proofs.Common.{◌≡◌, ◌+◌, ◌∷◌, ◌++◌, [], Some, map, take, get_or, string_bytes, sym, ap, ◌∙◌}
use Rattle.std.proofs.lemmas.List.{take_all, take_more, map-append}
use Rattle.std.proofs.lemmas.Str.{encode_ascii}
use Rattle.cedar_ast.proofs.NameReading.{HasRead, HasRead-byte, HasRead-colon, HasRead-like, HasRead-part, Leads, ids_are_identifiers, leads, leads-ascii, stops_at_byte, stops_at_end}
use Rattle.cedar_ast.proofs.internal_name.InternalName.from_str.Goals as goal
use Rattle.cedar_ast.proofs.internal_name.InternalName.from_str.Goals.{in-Inside+in_ok-push-in-Inside, in-Colon, in-Start+in_ok-push-in-Start}
use Rattle.cedar_ast.specs.Words.{Colon, Inside, Start, id_text, reading_then}

-- the reading stops at the first byte that can't follow
pub returns-in-None : goal.returns-in-None
returns-in-None c = record {
  name = tt;
  loc = tt;
  fault =
      rw c.as_bytes-byte-items.ensures.value at (stops_at_byte c.as_bytes-byte-items.result.now c.loop-at.at c.loop-at.reading _ _ (ids_are_identifiers c.loop-at.path.items)
      c.loop-at.invariant c.loop-at-test.true (sym c.then.ensures ∙ c.in-None.is));
}

-- each byte goes on with an identifier, a colon or a new part
pub loop-at-preserved : goal.loop-at-preserved
loop-at-preserved c =
    let byte = get_or c.as_bytes-byte-items.result.now c.loop-at.at 0 in
    let path = map id_text c.loop-at.path.items in
    let part = string_bytes c.loop-at.part in
    let front = take c.loop-at.at c.as_bytes-byte-items.result.now in
    let more : front ++ byte ∷ [] ≡ take (c.loop-at.at + 1) c.as_bytes-byte-items.result.now =
    sym (take_more c.as_bytes-byte-items.result.now c.loop-at.at 0 c.loop-at-test.true) in
    let goes : reading_then c.loop-at.reading byte ≡ Some c.in-Some.next = sym c.then.ensures ∙ c.in-Some.is in
    elim c.match-reading.branch [
      | in-Inside+in_ok-push-in-Inside w ↦ (
          let to : Leads c.loop-at.reading byte Inside = leads c.loop-at.reading byte Inside (goes ∙ ap Some w.in-Inside.is) in
          HasRead-like (sym w.in-Inside.is) (ap (λ vec. map id_text vec.items) (sym w.path-is)) (ap (λ piece. part ++ piece) (sym (encode_ascii byte (leads-ascii c.loop-at.reading byte to)))
          ∙ sym w.in_ok-push-in-Inside.ensures.bytes ∙ ap string_bytes (sym w.part-is)) more
          (HasRead-byte c.loop-at.reading byte path part front to c.loop-at.invariant)
          )
      | in-Colon w ↦ (
          let to : Leads c.loop-at.reading byte Colon = leads c.loop-at.reading byte Colon (goes ∙ ap Some w.in-Colon.is) in
          HasRead-like (sym w.in-Colon.is) (ap (λ vec. map id_text vec.items) (sym w.path-is)) (ap string_bytes (sym w.part-is)) more
          (HasRead-colon c.loop-at.reading byte path part front to c.loop-at.invariant)
          )
      | in-Start+in_ok-push-in-Start w ↦ (
          let to : Leads c.loop-at.reading byte Start = leads c.loop-at.reading byte Start (goes ∙ ap Some w.in-Start.is) in
          let named : id_text w.spelled.result ≡ part = w.spelled.ensures ∙ ap string_bytes w.replace.ensures.value in
          let pushed : path ++ part ∷ [] ≡ map id_text w.push-in-Start.new.self.items =
          ap (λ last. path ++ last ∷ []) (sym named) ∙ sym (map-append id_text c.loop-at.path.items (w.spelled.result ∷ []))
          ∙ ap (map id_text) (sym w.in_ok-push-in-Start.ensures.items) in
          let emptied : [] ≡ string_bytes w.replace.new.dest = sym (ap string_bytes w.replace.ensures.after ∙ w.new.ensures.bytes) in
          HasRead-like (sym w.in-Start.is) (pushed ∙ ap (λ vec. map id_text vec.items) (sym w.path-is)) (emptied ∙ ap string_bytes (sym w.part-is)) more
          (HasRead-part c.loop-at.reading byte path part front to c.loop-at.invariant)
          )
    ]

-- a text that ends outside of an identifier stops at its end
pub returns-in_default : goal.returns-in_default
returns-in_default c = record {
  name = tt;
  loc = tt;
  fault =
      let whole : take c.loop-at.at c.as_bytes-byte-items.result.now ≡ c.args.text.now =
      take_all c.loop-at.at c.as_bytes-byte-items.result.now c.loop-at-test.false ∙ c.as_bytes-byte-items.ensures.value in
      let read : HasRead c.loop-at.reading (map id_text c.loop-at.path.items) (string_bytes c.loop-at.part) c.args.text.now =
      rw whole at c.loop-at.invariant in
      stops_at_end c.args.text.now c.loop-at.reading _ _ (ids_are_identifiers c.loop-at.path.items) read c.in_default.not-Inside;
}
