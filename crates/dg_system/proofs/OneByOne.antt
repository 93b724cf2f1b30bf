-- Files that are read one after another.
--   held_more      one file more is held
--   held_taken     the same, of the first names of a list
--   held_pushed    the same, of the bytes in lists of their own
--   unread_taken   a file that is refused after the first of a list is the first that is refused
--   short_of       the same, where memory is refused for its bytes
use Rattle.dg_system.proofs.Common.{◌≡◌, ℕ, ◌+◌, List, [], ◌∷◌, ◌++◌, take, drop, map, sym, ap, subst, ◌∙◌, append_assoc, Bor, Vec, Global, map-append, take-append-drop, Held, MayHold, IsSourceFault, MayHoldAll, IsFirstUnread, SourceFault, OutOfMemory}

pub held_more : (held : List ℕ → Held) (names all : List (List ℕ)) (name bytes : List ℕ) → MayHoldAll held names all
    → MayHold (held name) bytes → MayHoldAll held (names ++ name ∷ []) (all ++ bytes ∷ [])
held_more held [] [] name bytes known one = (one, tt)
held_more held [] (b ∷ all) name bytes known one = absurd known
held_more held (n ∷ names) [] name bytes known one = absurd known
held_more held (n ∷ names) (b ∷ all) name bytes known one = (known.0, held_more held names all name bytes known.1 one)

pub held_taken : (held : List ℕ → Held) (names : List (Bor (List ℕ))) (place : ℕ) (name : Bor (List ℕ))
    (all : List (List ℕ)) (bytes : List ℕ) →
    take (place + 1) names ≡ take place names ++ name ∷ [] → MayHoldAll held (map (λ n. n.now) (take place names)) all
    → MayHold (held name.now) bytes →
    MayHoldAll held (map (λ n. n.now) (take (place + 1) names)) (all ++ bytes ∷ [])
held_taken held names place name all bytes longer known one =
    let front : List (List ℕ) = map (λ (n : Bor (List ℕ)). n.now) (take place names) in
    let same : front ++ name.now ∷ [] ≡ map (λ (n : Bor (List ℕ)). n.now) (take (place + 1) names) =
    sym (ap (map (λ (n : Bor (List ℕ)). n.now)) longer
    ∙ map-append (λ (n : Bor (List ℕ)). n.now) (take place names) (name ∷ [])) in
    subst (λ (xs : List (List ℕ)). MayHoldAll held xs (all ++ bytes ∷ [])) same
    (held_more held front all name.now bytes known one)

pub unread_taken : (held : List ℕ → Held) (names : List (Bor (List ℕ))) (place : ℕ) (name : Bor (List ℕ))
    (all : List (List ℕ)) (fault : SourceFault) →
    take (place + 1) names ≡ take place names ++ name ∷ [] → MayHoldAll held (map (λ n. n.now) (take place names)) all
    → IsSourceFault (held name.now) fault →
    IsFirstUnread held (map (λ n. n.now) names) fault
unread_taken held names place name all fault longer known refused =
    let back : List (Bor (List ℕ)) = drop (place + 1) names in
    let whole : names ≡ take place names ++ name ∷ back =
    sym (take-append-drop (place + 1) names) ∙ ap (λ (xs : List (Bor (List ℕ))). xs ++ back) longer
    ∙ append_assoc (take place names) (name ∷ []) back in
    record {
      front = map (λ (n : Bor (List ℕ)). n.now) (take place names);
      name = name.now;
      back = map (λ (n : Bor (List ℕ)). n.now) back;
      whole = ap (map (λ (n : Bor (List ℕ)). n.now)) whole
          ∙ map-append (λ (n : Bor (List ℕ)). n.now) (take place names) (name ∷ back);
      all = all;
      before = known;
      refused = refused;
    }

pub short_of : (held : List ℕ → Held) (names : List (Bor (List ℕ))) (place : ℕ) (name : Bor (List ℕ))
    (all : List (List ℕ)) (bytes : List ℕ) →
    take (place + 1) names ≡ take place names ++ name ∷ [] → MayHoldAll held (map (λ n. n.now) (take place names)) all
    → MayHold (held name.now) bytes →
    IsFirstUnread held (map (λ n. n.now) names) OutOfMemory
short_of held names place name all bytes longer known one =
    unread_taken held names place name all OutOfMemory longer known tt

pub held_pushed : (held : List ℕ → Held) (names : List (Bor (List ℕ))) (place : ℕ) (name : Bor (List ℕ))
    (before after : List (Vec ℕ Global)) (file : Vec ℕ Global) →
    after ≡ before ++ file ∷ [] → take (place + 1) names ≡ take place names ++ name ∷ [] →
    MayHoldAll held (map (λ n. n.now) (take place names)) (map (λ f. f.items) before)
    → MayHold (held name.now) file.items →
    MayHoldAll held (map (λ n. n.now) (take (place + 1) names)) (map (λ f. f.items) after)
held_pushed held names place name before after file pushed longer known one =
    let same : map (λ (f : Vec ℕ Global). f.items) after ≡ map (λ (f : Vec ℕ Global). f.items) before
    ++ file.items ∷ [] =
    ap (map (λ (f : Vec ℕ Global). f.items)) pushed ∙ map-append (λ (f : Vec ℕ Global). f.items) before (file ∷ []) in
    subst (λ (all : List (List ℕ)). MayHoldAll held (map (λ (n : Bor (List ℕ)). n.now) (take (place + 1) names)) all)
    (sym same)
    (held_taken held names place name (map (λ (f : Vec ℕ Global). f.items) before) file.items longer known one)
