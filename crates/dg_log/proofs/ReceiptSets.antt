-- What many receipts say, and that it stands in the history which a pen wrote.
--   below_up       numbers that are less than one number are less than a greater one
--   below_more     numbers of which one more is less than n are all less than n
--   below_fewer    of numbers less than n the last one is, and so are those before it
--   said_more      what is said by one item more
--   named_more     items of which one more is named are all named
--   named_below    the numbers of named items are less than the length of the row
--   end_more       a greater number is the end of one entry more
--   end_same       the end stays that of one entry more whose number is less
--   agreed         of items that agree those of one cell hold one value
--   get_take       what the first elements of a list hold
--   take_more      the first elements of a list, and the next one
--   cells_more     the cells of one item more
--   stands         what a receipt_set says stands in the history, where it agrees with what the pen knows
--   began          a history that a pen wrote once is the beginning of a longer one, where they agree
--   seen_length, began_seen, stands_seen   so it is of what a contract sees of these
--   begins_itself  a history begins with itself
--   longer_second, longer_first   of a history and its beginning, it is the longer
use Rattle.dg_log.proofs.Common.{◌≡◌, ℕ, zero, suc, ◌+◌, ◌<◌, ◌≤◌, List, [], ◌∷◌, ◌++◌, length, map, take, slice_get, Some, arith, refl, sym, ap, subst, ◌∙◌, length-append, slice_get_within, length-map, append-nil, Entry, AgreesOnCell, AgreeOnCells, AreBelow, StandIn, IsPrefixOf, IsLongerPrefix, entries_of, AreNamed, IsSetEnd}

pub below_up : (m n : ℕ) (ps : List (ℕ × Entry)) → m ≤ n → AreBelow m ps → AreBelow n ps
below_up m n [] up below = tt
below_up m n (p ∷ ps) up below = (omega (arith, below.0, up), below_up m n ps up below.1)

pub below_more : (n : ℕ) (ps : List (ℕ × Entry)) (p : ℕ × Entry) → AreBelow n ps → p.0 < n →
    AreBelow n (ps ++ p ∷ [])
below_more n [] p below last = (last, tt)
below_more n (x ∷ ps) p below last = (below.0, below_more n ps p below.1 last)

pub below_fewer : (n : ℕ) (ps : List (ℕ × Entry)) (p : ℕ × Entry) → AreBelow n (ps ++ p ∷ []) →
    AreBelow n ps ×
    (p.0 < n)
below_fewer n [] p below = (tt, below.0)
below_fewer n (x ∷ ps) p below = let rest = below_fewer n ps p below.1 in ((below.0, rest.0), rest.1)

pub said_more : (items : List (ℕ × ℕ × Entry)) (x : ℕ × ℕ × Entry) →
    entries_of (items ++ x ∷ []) ≡ entries_of items ++ (x.0, x.2) ∷ []
said_more [] x = refl
said_more (y ∷ items) x = ap (λ ps. (y.0, y.2) ∷ ps) (said_more items x)

pub named_more : (row : List ℕ) (items : List (ℕ × ℕ × Entry)) (x : ℕ × ℕ × Entry) → AreNamed row items →
    slice_get row x.0 ≡ Some x.1 → AreNamed row (items ++ x ∷ [])
named_more row [] x named last = (last, tt)
named_more row (y ∷ items) x named last = (named.0, named_more row items x named.1 last)

pub named_below : (row : List ℕ) (items : List (ℕ × ℕ × Entry)) → AreNamed row items →
    AreBelow (length row) (entries_of items)
named_below row [] named = tt
named_below row (x ∷ items) named = (slice_get_within row x.0 x.1 named.0, named_below row items named.1)

pub end_more : (end prefix : ℕ) (ps : List (ℕ × Entry)) (p : ℕ × Entry) → IsSetEnd end ps → prefix ≡ p.0 + 1 →
    end < prefix →
    IsSetEnd prefix (ps ++ p ∷ [])
end_more end prefix ps p is_end last greater = (
  below_more prefix ps p (below_up end prefix ps (omega arith) is_end.0) (omega arith),
  λ n below. omega (arith, (below_fewer n ps p below).1),
)

pub end_same : (end prefix : ℕ) (ps : List (ℕ × Entry)) (p : ℕ × Entry) → IsSetEnd end ps → prefix ≡ p.0 + 1 →
    prefix ≤ end →
    IsSetEnd end (ps ++ p ∷ [])
end_same end prefix ps p is_end last within = (
  below_more end ps p is_end.0 (omega arith),
  λ n below. is_end.1 n (below_fewer n ps p below).0,
)

agreed : (x : ℕ × ℕ × Entry) (others : List (ℕ × ℕ × Entry)) (k : ℕ) → AgreesOnCell x others → k < length others →
    slice_get (map (λ y. y.1) others) k ≡ Some x.1 → slice_get (map (λ y. y.2) others) k ≡ Some x.2
agreed x [] k agrees below cell = absurd (omega arith)
agreed x (y ∷ others) zero agrees below cell = let same : x.1 ≡ y.1 = cc in ap Some (sym (agrees.0 same))
agreed x (y ∷ others) (suc k) agrees below cell = agreed x others k agrees.1 (omega arith) cell

get_take : (n k : ℕ) (xs : List ℕ) → k < n → slice_get (take n xs) k ≡ slice_get xs k
get_take zero k xs below = absurd (omega arith)
get_take (suc n) k [] below = refl
get_take (suc n) zero (x ∷ xs) below = refl
get_take (suc n) (suc k) (x ∷ xs) below = get_take n k xs (omega arith)

take_more : (k : ℕ) (xs : List ℕ) (x : ℕ) → slice_get xs k ≡ Some x → take (suc k) xs ≡ take k xs ++ x ∷ []
take_more k [] x at = absurd (cc)
take_more zero (y ∷ xs) x at = let same : y ≡ x = cc in ap (λ n. n ∷ []) same
take_more (suc k) (y ∷ xs) x at = ap (λ ns. y ∷ ns) (take_more k xs x at)

map_more : (items : List (ℕ × ℕ × Entry)) (x : ℕ × ℕ × Entry) →
    map (λ y. y.1) (items ++ x ∷ []) ≡ map (λ y. y.1) items ++ x.1 ∷ []
map_more [] x = refl
map_more (y ∷ items) x = ap (λ ns. y.1 ∷ ns) (map_more items x)

pub cells_more : (row : List ℕ) (items : List (ℕ × ℕ × Entry)) (x : ℕ × ℕ × Entry) →
    map (λ y. y.1) items ≡ take (length items) row →
    slice_get row (length items) ≡ Some x.1 → map (λ y. y.1) (items ++ x ∷ []) ≡ take (length (items ++ x ∷ [])) row
cells_more row items x cells next =
    let longer : length (items ++ x ∷ []) ≡ suc (length items) = omega (arith, length-append items (x ∷ [])) in
    map_more items x ∙ ap (λ ns. ns ++ x.1 ∷ []) cells ∙ sym (take_more (length items) row x.1 next)
    ∙ ap (λ k. take k row) (sym longer)

pub stands : (row : List ℕ) (items others : List (ℕ × ℕ × Entry)) → AgreeOnCells items others → AreNamed row items →
    map (λ y. y.1) others ≡ take (length others) row →
    AreBelow (length (map (λ y. y.2) others)) (entries_of items) →
    StandIn (map (λ y. y.2) others) (entries_of items)
stands row [] others agree named cells below = tt
stands row (x ∷ items) others agree named cells below =
    let inside : x.0 < length others = omega (arith, below.0, length-map others (λ (y : ℕ × ℕ × Entry). y.2)) in
    let cell : slice_get (map (λ y. y.1) others) x.0 ≡ Some x.1 =
    ap (λ ns. slice_get ns x.0) cells ∙ get_take (length others) x.0 row inside ∙ named.0 in (
      agreed x others x.0 agree.0 inside cell,
      stands row items others agree.1 named.1 cells below.1,
    )

first_agrees : (x y : ℕ × ℕ × Entry) (others : List (ℕ × ℕ × Entry)) → AgreesOnCell x (y ∷ others) → x.1 ≡ y.1 → x.2 ≡ y.2
first_agrees x y others agrees same = agrees.0 same

agree_past : (items : List (ℕ × ℕ × Entry)) (y : ℕ × ℕ × Entry) (others : List (ℕ × ℕ × Entry)) →
    AgreeOnCells items (y ∷ others) → AgreeOnCells items others
agree_past [] y others agree = tt
agree_past (x ∷ items) y others agree = (agree.0.1, agree_past items y others agree.1)

begins_more : (e f : Entry) (K H : List Entry) → e ≡ f → IsPrefixOf K H → IsPrefixOf (e ∷ K) (f ∷ H)
begins_more e f K H same (rest, is) = (rest, ap (λ L. f ∷ L) is ∙ ap (λ d. d ∷ (K ++ rest)) (sym same))

pub began : (row : List ℕ) (items others : List (ℕ × ℕ × Entry)) → AgreeOnCells items others →
    map (λ y. y.1) items ≡ take (length items) row → map (λ y. y.1) others ≡ take (length others) row →
    length items ≤ length others →
    IsPrefixOf (map (λ y. y.2) items) (map (λ y. y.2) others)
began row [] others agree cells more few = (map (λ y. y.2) others, refl)
began row (x ∷ items) [] agree cells more few = absurd (omega arith)
began [] (x ∷ items) (y ∷ others) agree cells more few = absurd (cc)
began (c ∷ row) (x ∷ items) (y ∷ others) agree cells more few =
    let same : x.1 ≡ y.1 = cc in
    begins_more x.2 y.2 _ _ (first_agrees x y others agree.0 same)
    (began row items others (agree_past items y others agree.1) (cc) (cc) (omega arith))

-- what a contract sees of tokens is as long as they are many
pub seen_length : (items : List (ℕ × ℕ × Entry)) {K : List Entry} → map (λ x. x.2) items ≡ K → length items ≡ length K
seen_length items is = sym (length-map items (λ (x : ℕ × ℕ × Entry). x.2)) ∙ ap length is

pub began_seen : (row : List ℕ) (items others : List (ℕ × ℕ × Entry)) {K H : List Entry} → map (λ x. x.2) items ≡ K →
    map (λ x. x.2) others ≡ H → AgreeOnCells items others → map (λ y. y.1) items ≡ take (length items) row →
    map (λ y. y.1) others ≡ take (length others) row → length K ≤ length H → IsPrefixOf K H
began_seen row items others {K} first second agree cells more few =
    subst (IsPrefixOf K) second (subst (λ L. IsPrefixOf L (map (λ x. x.2) others)) first
    (began row items others agree cells more (omega (arith, few, seen_length items first, seen_length others second))))

pub stands_seen : (row : List ℕ) (items others : List (ℕ × ℕ × Entry)) {ps : List (ℕ × Entry)} {H : List Entry} →
    entries_of items ≡ ps → map (λ x. x.2) others ≡ H → AgreeOnCells items others → AreNamed row items →
    map (λ y. y.1) others ≡ take (length others) row → AreBelow (length H) ps → StandIn H ps
stands_seen row items others {ps} {H} first second agree named cells below =
    subst (StandIn H) first (subst (λ L. StandIn L (entries_of items)) second
    (stands row items others agree named cells
    (subst (λ L. AreBelow (length L) (entries_of items)) (sym second)
    (subst (AreBelow (length H)) (sym first) below))))

pub begins_itself : (H : List Entry) → IsPrefixOf H H
begins_itself H = ([], sym (append-nil H))

pub longer_second : (K H M : List Entry) → IsPrefixOf K H → M ≡ H → length K ≤ length H → IsLongerPrefix K H M
longer_second K H M begins is few = record {
  first = subst (IsPrefixOf K) (sym is) begins;
  second = subst (IsPrefixOf H) (sym is) (begins_itself H);
  second_longer = λ more. is;
  first_longer = λ more. absurd (omega (arith, few, more));
}

pub longer_first : (K H M : List Entry) → IsPrefixOf H K → M ≡ K → length H < length K → IsLongerPrefix K H M
longer_first K H M begins is few = record {
  first = subst (IsPrefixOf K) (sym is) (begins_itself K);
  second = subst (IsPrefixOf H) (sym is) begins;
  second_longer = λ more. absurd (omega (arith, few, more));
  first_longer = λ more. is;
}
