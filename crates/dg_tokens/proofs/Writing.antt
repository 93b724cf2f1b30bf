-- Bytes written at the end of a line, before what stands there.
--   put_before      what is written from a on, up to a + k, stands before what stood from there on
--   label_made      the bytes of a label, written from the last to the first
--   chunk_before    a chunk that is written from a on stands before what stood behind it
--   label_written   all bytes of a label, written in two parts, the last two first, so that they end at end: the label stands
--                   before what stood from there on
use Rattle.dg_tokens.proofs.Common.{◌≡◌, ℕ, ◌+◌, ◌-◌, ◌<◌, ◌≤◌, List, [], ◌∷◌, ◌++◌, length, take, drop, set, sym, ap, ◌∙◌, arith, length-take-le, length-drop, length-append, append_assoc, take-add, take-length, put_chunk_is, length-put_chunk, put_chunk, drop_at, drop-drop, drop-append-le, drop-set, put_mid}

pub put_before : (a k end : ℕ) (xs ys : List ℕ) → a + k ≡ end → end ≤ length xs
    → drop a (put_mid a k xs ys) ≡ ys ++ drop end xs
put_before a k end xs ys is inside =
    drop_at (take a xs) (ys ++ drop k (drop a xs)) a (length-take-le a xs (omega arith))
    ∙ ap (λ rest. ys ++ rest) (drop-drop k a xs ∙ ap (λ n. drop n xs) is)

chunk_before : (a end : ℕ) (xs ys : List ℕ) → a + length ys ≡ end → end ≤ length xs
    → drop a (put_chunk a xs ys) ≡ ys ++ drop end xs
chunk_before a end xs ys is inside =
    ap (drop a) (put_chunk_is a xs ys (omega arith))
    ∙ drop_at (take a xs) (ys ++ drop (length ys) (drop a xs)) a (length-take-le a xs (omega arith))
    ∙ ap (λ rest. ys ++ rest) (drop-drop (length ys) a xs ∙ ap (λ n. drop n xs) is)

pub label_written : (from end start : ℕ) (line bytes part : List ℕ) → from + 18 ≡ end → end ≤ length line
    → start ≤ 18 → length bytes ≡ 18 → part ≡ take 2 (drop 16 bytes)
    → drop (from + start) (put_chunk from (put_chunk (from + 16) line (take 2 part)) (take 16 bytes))
    ≡ drop start bytes ++ drop end line
label_written from end start line bytes part back inside within long is =
    let front : List ℕ = take 16 bytes in
    let last : List ℕ = take 2 part in
    let sixteen : length front ≡ 16 = length-take-le 16 bytes (omega arith) in
    let some : length part ≡ 2 = ap length is ∙ length-take-le 2 (drop 16 bytes) (omega (arith, length-drop 16 bytes)) in
    let whole : last ≡ part = ap (λ n. take n part) (sym some) ∙ take-length part in
    let two : length last ≡ 2 = ap length whole ∙ some in
    let both : front ++ last ≡ bytes =
    ap (λ back. front ++ back) (whole ∙ is) ∙ sym (take-add 16 2 bytes) ∙ ap (λ n. take n bytes) (sym long)
    ∙ take-length bytes in
    let size : length (put_chunk (from + 16) line last) ≡ length line = length-put_chunk (from + 16) line last in
    sym (drop-drop start from (put_chunk from (put_chunk (from + 16) line last) front))
    ∙ ap (drop start)
    (chunk_before from (from + 16) (put_chunk (from + 16) line last) front (omega arith) (omega arith)
    ∙ ap (λ rest. front ++ rest) (chunk_before (from + 16) end line last (omega arith) inside)
    ∙ sym (append_assoc front last (drop end line)) ∙ ap (λ all. all ++ drop end line) both)
    ∙ drop-append-le start bytes (drop end line) (omega arith)

pub label_made : (name bytes part : List ℕ) (n start : ℕ) → n ≡ 16 - length name → start ≡ n → length name ≤ 16
    → length bytes ≡ 18 → part ≡ name → drop 17 bytes ≡ 61 ∷ []
    → drop start (set (put_mid (n + 1) (17 - (n + 1)) bytes part) n 32) ≡ 32 ∷ (name ++ 61 ∷ [])
label_made name bytes part n start e f short long is end =
    let place = put_before (n + 1) (17 - (n + 1)) 17 bytes part (omega arith) (omega arith) in
    let room : n < length (put_mid (n + 1) (17 - (n + 1)) bytes part) =
    omega (
      arith,
      ap length place,
      length-drop (n + 1) (put_mid (n + 1) (17 - (n + 1)) bytes part),
      length-append part (drop 17 bytes),
      ap length end,
    ) in
    ap (λ k. drop k (set (put_mid (n + 1) (17 - (n + 1)) bytes part) n 32)) f
    ∙ drop-set (put_mid (n + 1) (17 - (n + 1)) bytes part) n 32 room
    ∙ ap (λ back. 32 ∷ back) (place ∙ ap (λ front. front ++ drop 17 bytes) is ∙ ap (λ back. name ++ back) end)
