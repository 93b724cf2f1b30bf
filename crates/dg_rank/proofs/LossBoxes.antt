-- Boxes of losses that are paid for. Here p v t is what v pays for t dollars.
--   Rises p j           == for up to j dollars nobody pays less for more
--   IsShifted p q v t j == by q everybody pays what is paid by p, but at v once t dollars are lost
--   in_few         what is in a box holds nowhere more than its dollars
--   paid_rises, paid_none, paid_shifted      what is paid by prices, or a dollar for each
--   told_more      prices tell of the other dollars once some are lost
--   rich_pays      where each vertex holds what it may have to pay, all of the box is paid for
--   room_left      what room is left once dollars are lost at a vertex
--   payer_wins     what is held in a divisor of the class can be paid
--   dollar_pays    a dollar is paid for in a box if it is at each vertex
--   some_more      a trial with dollars more at a place
--   unpaid_beyond  a loss of more at a vertex
--   nothing_unpaid what can't be won is lost with no dollar taken
--   pays_told, box_told      what is told of amounts is told of equivalent ones
--   pays_beyond    those that lose more at a vertex are paid for
--   twin_pays      if they are, so are those that lose more at one that is the same in the box
--   pays_closed    so the box may be closed at all of these
--   plain_told     where each dollar costs a dollar
--   none_held      a trial of no dollars
--   class_small    what is equivalent to small amounts is small
--   taken_small    what is left once dollars are taken
use Rattle.dg_rank.proofs.Common.{◌≡◌, ◌≢◌, ℕ, ◌+◌, ◌-◌, ◌<◌, ◌≤◌, inl, inr, refl, sym, List, [], length, arith, ap, ◌∙◌, ⊎_elim, set, length-set, get_or-set_same, get_or-set_other, slice_index, ℤ, ◌≤ℤ◌, ◌<ℤ◌, cases_eq, ints, by_lt_z, pos, unsigned_abs, Option, Some, None, MatchOption, Result, Ok, Err, MatchResult, Multigraph, Amounts, degree, only_at, AreEquivalent, IsEffective, IsWinnable, minus, degree-less, degree-only_at, only_at-here, only_at-other, sum_below-one, sum_below-two, sum_below-zero, equivalent-winnable, win_more, amounts_of_trial, BoxWins, IsBoxLoss, IsInBox, IsMultigraph, Vector, at, IsInLinearSystem}
use Rattle.std.proofs.Common.{min}
use Rattle.std.proofs.Math.IntN.{◌+ℤ◌, ◌-ℤ◌}
use Rattle.dg_rank.proofs.Elsewhere.{degree-given, form_degree}
use Rattle.dg_theory.proofs.Searching.{AllBelow, FirstOf, first_or_all}
use Rattle.dg_rank.specs.declared.boxes.Stopped.{Stopped}
use Rattle.dg_rank.specs.declared.prices.Prices.{Prices}
use Rattle.dg_rank.specs.Prices.{price, paid, AreTold, left_after, BoxPays, IsUnpaid, AreCosts, IsPaidTwin, IsTwinClosed}
use Rattle.std.proofs.lemmas.Bool.Decides.{nat_tests}
use Rattle.dg_theory.specs.Twins.{exchange, exchanged}
use Rattle.dg_theory.proofs.Twins.{exchange-below, exchange-same, exchange-twice, sum_below-exchanged, win_exchanged}

abbrev pub Rises : (ℕ → ℕ → ℕ) → ℕ → Type 0
Rises p j = (v s t : ℕ) → v < 16 → s ≤ t → t ≤ j → p v s ≤ p v t

pub record IsShifted (p q : ℕ → ℕ → ℕ) (v t j : ℕ) : Type 0 where
  pub here : (s : ℕ) → t + s ≤ j → q v s ≡ p v (t + s) - p v t
  pub kept : (u s : ℕ) → u ≢ v → q u s ≡ p u s

pub paid_rises : (o : Option Prices) (l : List ℕ) (j : ℕ) → AreTold o l j → Rises (paid o l) j
paid_rises None l j told v s t below less few = less
paid_rises (Some P) l j (prices, most) v s t below less few =
    let rise : price P v (slice_index l v + s) ≤ price P v (slice_index l v + t) =
    prices.rising v (slice_index l v + s) (slice_index l v + t) (omega arith) (omega (arith, most v below)) in
    omega arith

pub paid_none : (o : Option Prices) (l : List ℕ) (v : ℕ) → paid o l v 0 ≡ 0
paid_none None l v = refl
paid_none (Some P) l v =
    let same : slice_index l v + 0 ≡ slice_index l v = omega arith in
    rw same (omega arith)

pub paid_shifted : (o : Option Prices) (l : List ℕ) (v t j : ℕ) → AreTold o l j → v < 16 → v < length l →
    IsShifted (paid o l) (paid o (set l v (slice_index l v + t))) v t j
paid_shifted None l v t j told below placed = record {
  here = λ s few. omega arith;
  kept = λ u s other. refl;
}
paid_shifted (Some P) l v t j (prices, most) below placed = record {
  here = λ s few.
      let now : slice_index (set l v (slice_index l v + t)) v ≡ slice_index l v + t =
      get_or-set_same l v (slice_index l v + t) 0 placed in
      let sum : slice_index l v + t + s ≡ slice_index l v + (t + s) = omega arith in
      let first : price P v (slice_index l v) ≤ price P v (slice_index l v + t) =
      prices.rising v (slice_index l v) (slice_index l v + t) (omega arith) (omega (arith, most v below, few)) in
      rw (now, sum) (omega arith);
  kept = λ u s other. rw (get_or-set_other l v u (slice_index l v + t) 0 other) refl;
}

pub told_more : (o : Option Prices) (l : List ℕ) (j v t : ℕ) → AreTold o l j → v < length l → t ≤ j →
    AreTold o (set l v (slice_index l v + t)) (j - t)
told_more None l j v t told placed few = told
told_more (Some P) l j v t (prices, most) placed few = (
  prices,
  λ u below. ⊎_elim
      (λ (same : u ≡ v). rw same (omega (arith, rw same at (most u below), get_or-set_same l v (slice_index l v + t) 0 placed)))
      (λ (other : u ≡ v → ⊥). omega (arith, most u below, get_or-set_other l v u (slice_index l v + t) 0 other))
      (cases_eq u v),
)

pub in_few : (n j v : ℕ) (r : List ℕ) (E : Amounts) → IsInBox n r j E → v < n → E v ≤ℤ pos j
in_few n j v r E inside below =
    let most : E v ≤ℤ degree n E = sum_below-one n v E below (λ w low _. inside.effective w low) in
    omega (arith, ints, inside.few)

within_min : (n j v : ℕ) (r : List ℕ) (E : Amounts) → IsInBox n r j E → v < n →
    unsigned_abs (E v) ≤ min (slice_index r v) j
within_min n j v r E inside below =
    omega (arith, ints, inside.effective v below, inside.within v below, in_few n j v r E inside below)

pub rich_pays : (g : Multigraph) (A : Amounts) (p : ℕ → ℕ → ℕ) (r : List ℕ) (j : ℕ) → g.size ≤ 16 → Rises p j →
    ((v : ℕ) → v < g.size → pos (p v (min (slice_index r v) j)) ≤ℤ A v) → BoxPays g A p r j
rich_pays g A p r j few rises rich E inside = (
  [],
  λ v below.
      let most : p v (unsigned_abs (E v)) ≤ p v (min (slice_index r v) j) =
      rises v (unsigned_abs (E v)) (min (slice_index r v) j) (omega arith) (within_min g.size j v r E inside below)
      (omega arith) in
      omega (arith, ints, rich v below),
)

pub room_left : (r : List ℕ) (v t u : ℕ) → v < length r → t ≤ slice_index r v →
    pos (slice_index (set r v (slice_index r v - t)) u) ≡ pos (slice_index r u) -ℤ only_at v (pos t) u
room_left r v t u placed few = ⊎_elim
    (λ (there : u ≡ v). rw there
    (omega (arith, ints, only_at-here v (pos t), get_or-set_same r v (slice_index r v - t) 0 placed)))
    (λ (other : u ≡ v → ⊥).
    omega (arith, ints, only_at-other v (pos t) u other, get_or-set_other r v u (slice_index r v - t) 0 other))
    (cases_eq u v)

box_without : (n j v t : ℕ) (r : List ℕ) (E : Amounts) → IsInBox n r j E → v < n → v < length r → pos t ≤ℤ E v →
    IsInBox n (set r v (slice_index r v - t)) (j - t) (minus E (only_at v (pos t)))
box_without n j v t r E inside below placed some = record {
  effective = λ u low. ⊎_elim
      (λ (there : u ≡ v). rw there (omega (arith, ints, some, only_at-here v (pos t))))
      (λ (other : u ≡ v → ⊥). omega (arith, ints, inside.effective u low, only_at-other v (pos t) u other))
      (cases_eq u v);
  few = omega (
    arith,
    ints,
    degree-less n E (only_at v (pos t)),
    degree-only_at n v (pos t) below,
    inside.few,
    in_few n j v r E inside below,
    some,
  );
  within = λ u low. omega (
    arith,
    ints,
    inside.within u low,
    room_left r v t u placed (omega (arith, ints, some, inside.within v below)),
  );
}

some_more : (E : List ℕ) (p t v : ℕ) → p < length E →
    amounts_of_trial (set E p (slice_index E p + t)) v ≡ amounts_of_trial E v +ℤ only_at p (pos t) v
some_more E p t v inside = ⊎_elim
    (λ (there : v ≡ p).
    let now : slice_index (set E p (slice_index E p + t)) v ≡ slice_index E p + t =
    ap (slice_index (set E p (slice_index E p + t))) there ∙ get_or-set_same E p (slice_index E p + t) 0 inside in
    let was : slice_index E v ≡ slice_index E p = ap (slice_index E) there in
    let here : only_at p (pos t) v ≡ pos t = ap (only_at p (pos t)) there ∙ only_at-here p (pos t) in
    omega (arith, ints))
    (λ (apart : v ≡ p → ⊥).
    let same : slice_index (set E p (slice_index E p + t)) v ≡ slice_index E v =
    get_or-set_other E p v (slice_index E p + t) 0 apart in
    omega (arith, ints, only_at-other p (pos t) v apart))
    (cases_eq v p)

pub payer_wins : (g : Multigraph) (A : Amounts) (x : Vector) (v c : ℕ) → IsInLinearSystem g A x → pos c ≤ℤ at x v →
    IsWinnable g (minus A (only_at v (pos c)))
payer_wins g A x v c class some =
    let (s, leads) = class.led in
    (equivalent-winnable g (minus A (only_at v (pos c))) (minus (at x) (only_at v (pos c)))
    (s, λ u low. omega (arith, ints, leads u low))).1 (
      [],
      λ u low. ⊎_elim
          (λ (same : u ≡ v). rw same (omega (arith, ints, only_at-here v (pos c))))
          (λ (other : u ≡ v → ⊥). omega (arith, ints, only_at-other v (pos c) u other, class.effective u low))
          (cases_eq u v),
    )

pub dollar_pays : (g : Multigraph) (A : Amounts) (p : ℕ → ℕ → ℕ) (r c : List ℕ) → g.size ≤ 16 →
    ((v : ℕ) → p v 0 ≡ 0) → AreCosts p r 1 c → IsEffective g.size A →
    ((v : ℕ) → v < g.size → IsWinnable g (minus A (only_at v (pos (slice_index c v))))) → BoxPays g A p r 1
dollar_pays g A p r c few free costs rich borne E inside = ⊎_elim
    (λ (none : AllBelow g.size (λ u. E u ≤ℤ pos 0)). (
      [],
      λ v below.
          let nothing : unsigned_abs (E v) ≡ 0 = omega (arith, ints, none v below, inside.effective v below) in
          omega (arith, ints, rich v below, ap (λ (x : ℕ). p v x) nothing, free v),
    ))
    (λ (first : FirstOf g.size (λ u. E u ≤ℤ pos 0) (λ u. pos 0 <ℤ E u)).
    let v = first.0 in
    win_more g (minus A (only_at v (pos (slice_index c v)))) (left_after A p E)
    (λ u low. ⊎_elim
    (λ (same : u ≡ v). rw same (
    let one : unsigned_abs (E v) ≡ 1 = omega (arith, ints, first.2, in_few g.size 1 v r E inside first.1) in
    let most : min (slice_index r v) 1 ≡ 1 = omega (arith, ints, first.2, inside.within v first.1) in
    let here : minus A (only_at v (pos (slice_index c v))) v ≤ℤ left_after A p E v = omega (
      arith,
      ints,
      only_at-here v (pos (slice_index c v)),
      ap (λ (x : ℕ). p v x) one,
      rw most at (costs v (omega arith)),
    ) in
    here))
    (λ (other : u ≡ v → ⊥).
    let nothing : unsigned_abs (E u) ≡ 0 = omega (
      arith,
      ints,
      sum_below-two g.size v u E first.1 low other (λ w below _. inside.effective w below),
      inside.effective u low,
      inside.few,
      first.2,
    ) in
    omega (arith, ints, only_at-other v (pos (slice_index c v)) u other, ap (λ (x : ℕ). p u x) nothing, free u))
    (cases_eq u v))
    (borne v first.1))
    (first_or_all g.size (λ u. E u ≤ℤ pos 0) (λ u. pos 0 <ℤ E u)
    (λ u _. by_lt_z (pos 0) (E u) (λ (more : pos 0 <ℤ E u). inr more) (λ (few : E u ≤ℤ pos 0). inl few)))

pub unpaid_beyond : (g : Multigraph) (A : Amounts) (p q : ℕ → ℕ → ℕ) (r : List ℕ) (j v t : ℕ) (E E' : List ℕ) →
    v < g.size → g.size ≤ 16 → v < length r → t ≤ slice_index r v → t ≤ j → Rises p j → IsShifted p q v t j →
    IsUnpaid g (minus A (only_at v (pos (p v t)))) q (set r v (slice_index r v - t)) (j - t) E' →
    E ≡ set E' v (slice_index E' v + t) → IsUnpaid g A p r j E
unpaid_beyond g A p q r j v t E E' below few placed roomy most rises shift loss is = record {
  places = ap length is ∙ length-set E' v (slice_index E' v + t) ∙ loss.places;
  inside = record {
    effective = λ u low. omega (arith, ints);
    few = omega (
      arith,
      ints,
      degree-given g.size (amounts_of_trial E') (amounts_of_trial E) v t below more,
      loss.inside.few,
    );
    within = λ u low. omega (arith, ints, more u, loss.inside.within u low, room_left r v t u placed roomy);
  };
  loses = λ win. loss.loses (win_more g (left_after A p (amounts_of_trial E))
      (left_after (minus A (only_at v (pos (p v t)))) q (amounts_of_trial E'))
      (λ u low. ⊎_elim
      (λ (same : u ≡ v). rw same (
      let held : slice_index E v ≡ t + slice_index E' v = omega (arith, ints, more v, only_at-here v (pos t)) in
      let rest = in_few g.size (j - t) v (set r v (slice_index r v - t)) (amounts_of_trial E') loss.inside below in
      let within : t + slice_index E' v ≤ j = omega (arith, ints, rest, most) in
      let here : left_after A p (amounts_of_trial E) v
      ≤ℤ left_after (minus A (only_at v (pos (p v t)))) q (amounts_of_trial E') v = omega (
        arith,
        ints,
        only_at-here v (pos (p v t)),
        ap (λ (x : ℕ). p v x) held,
        shift.here (slice_index E' v) within,
        rises v t (t + slice_index E' v) (omega arith) (omega arith) within,
      ) in
      here))
      (λ (other : u ≡ v → ⊥).
      let held : slice_index E u ≡ slice_index E' u = omega (arith, ints, more u, only_at-other v (pos t) u other) in
      omega (
        arith,
        ints,
        only_at-other v (pos (p v t)) u other,
        ap (λ (x : ℕ). p u x) held,
        shift.kept u (slice_index E' u) other,
      ))
      (cases_eq u v)) win);
} where
  more : (u : ℕ) → amounts_of_trial E u ≡ amounts_of_trial E' u +ℤ only_at v (pos t) u
  more u = ap (λ (L : List ℕ). amounts_of_trial L u) is ∙ some_more E' v t u (omega (arith, loss.places))

pub nothing_unpaid : (g : Multigraph) (A : Amounts) (p : ℕ → ℕ → ℕ) (r : List ℕ) (j : ℕ) (E : List ℕ) →
    ((v : ℕ) → p v 0 ≡ 0) → length E ≡ g.size → ((u : ℕ) → u < g.size → slice_index E u ≡ 0) → (¬ IsWinnable g A) →
    IsUnpaid g A p r j E
nothing_unpaid g A p r j E free places empty lost = record {
  places = places;
  inside = record {
    effective = λ u low. omega (arith, ints);
    few = omega (arith, ints, sum_below-zero g.size (amounts_of_trial E) (λ u low. ap pos (empty u low)));
    within = λ u low. omega (arith, ints, empty u low);
  };
  loses = λ win. lost (win_more g (left_after A p (amounts_of_trial E)) A
      (λ u low. omega (arith, ints, ap (λ (x : ℕ). p u x) (empty u low), free u)) win);
}

pub pays_told : (o : Option (List ℕ)) (g : Multigraph) (A B : Amounts) (p : ℕ → ℕ → ℕ) (r : List ℕ) (j : ℕ) →
    AreEquivalent g A B → MatchOption o (BoxPays g B p r j) (IsUnpaid g B p r j) →
    MatchOption o (BoxPays g A p r j) (IsUnpaid g A p r j)
pays_told None g A B p r j (s, leads) pays = λ E inside.
    (equivalent-winnable g (left_after A p E) (left_after B p E) (s, λ u below. omega (arith, ints, leads u below))).1
    (pays E inside)
pays_told (Some E) g A B p r j (s, leads) loss = record {
  places = loss.places;
  inside = loss.inside;
  loses = λ win. loss.loses ((equivalent-winnable g (left_after A p (amounts_of_trial E)) (left_after B p (amounts_of_trial E))
      (s, λ u below. omega (arith, ints, leads u below))).0 win);
}

pub box_told : (o : Option (List ℕ)) (g : Multigraph) (A B : Amounts) (r : List ℕ) (j : ℕ) → AreEquivalent g A B →
    MatchOption o (BoxWins g B r j) (IsBoxLoss g B r j) → MatchOption o (BoxWins g A r j) (IsBoxLoss g A r j)
box_told None g A B r j (s, leads) wins =
    λ E inside. (equivalent-winnable g (minus A E) (minus B E) (s, λ u below. omega (arith, ints, leads u below))).1
    (wins E inside)
box_told (Some E) g A B r j (s, leads) loss = record {
  places = loss.places;
  inside = loss.inside;
  loses = λ win. loss.loses ((equivalent-winnable g (minus A (amounts_of_trial E)) (minus B (amounts_of_trial E))
      (s, λ u below. omega (arith, ints, leads u below))).0 win);
}

pays_beyond : (g : Multigraph) (A : Amounts) (p q : ℕ → ℕ → ℕ) (r : List ℕ) (j v t : ℕ) → v < g.size → g.size ≤ 16 →
    v < length r → Rises p j → IsShifted p q v t j →
    BoxPays g (minus A (only_at v (pos (p v t)))) q (set r v (slice_index r v - t)) (j - t) →
    (E : Amounts) → IsInBox g.size r j E → pos t ≤ℤ E v → IsWinnable g (left_after A p E)
pays_beyond g A p q r j v t below few placed rises shift beyond E inside more =
    let X : Amounts = only_at v (pos t) in
    win_more g (left_after (minus A (only_at v (pos (p v t)))) q (minus E X)) (left_after A p E)
    (λ u low. ⊎_elim
    (λ (same : u ≡ v). rw same (
    let held : t + unsigned_abs (minus E X v) ≡ unsigned_abs (E v) = omega (arith, ints, more, only_at-here v (pos t)) in
    let within : t + unsigned_abs (minus E X v) ≤ j = omega (arith, ints, in_few g.size j v r E inside below, more) in
    let here : left_after (minus A (only_at v (pos (p v t)))) q (minus E X) v ≤ℤ left_after A p E v = omega (
      arith,
      ints,
      only_at-here v (pos (p v t)),
      ap (λ (x : ℕ). p v x) held,
      shift.here (unsigned_abs (minus E X v)) within,
      rises v t (unsigned_abs (E v)) (omega arith) (omega (arith, held)) (omega (arith, held, within)),
    ) in
    here))
    (λ (other : u ≡ v → ⊥).
    let held : minus E X u ≡ E u = omega (arith, ints, only_at-other v (pos t) u other) in
    omega (
      arith,
      ints,
      only_at-other v (pos (p v t)) u other,
      ap (λ (x : ℤ). p u (unsigned_abs x)) held,
      shift.kept u (unsigned_abs (minus E X u)) other,
    ))
    (cases_eq u v))
    (beyond (minus E X) (box_without g.size j v t r E inside below placed more))

box_exchanged : (n j u v : ℕ) (r : List ℕ) (E : Amounts) → u < n → v < n → slice_index r u ≡ slice_index r v →
    IsInBox n r j E → IsInBox n r j (exchanged u v E)
box_exchanged n j u v r E left right same inside = record {
  effective = λ w low. inside.effective (exchange u v w) (exchange-below n u v w left right low);
  few = omega (arith, ints, sum_below-exchanged n u v E left right, inside.few);
  within = λ w low. omega (
    arith,
    ints,
    inside.within (exchange u v w) (exchange-below n u v w left right low),
    exchange-same (slice_index r) u v w same,
  );
}

twin_pays : (g : Multigraph) (A : Amounts) (p : ℕ → ℕ → ℕ) (r : List ℕ) (j v t u : ℕ) → IsMultigraph g → v < g.size →
    u < g.size → IsPaidTwin g A p r v u →
    ((E : Amounts) → IsInBox g.size r j E → pos t ≤ℤ E v → IsWinnable g (left_after A p E)) →
    (E : Amounts) → IsInBox g.size r j E → pos t ≤ℤ E u → IsWinnable g (left_after A p E)
twin_pays g A p r j v t u graph below below' same beyond E inside more =
    let F : Amounts = exchanged v u E in
    let there : exchange v u v ≡ u = grind (arith, nat_tests) in
    let held : E u ≡ F v = sym (ap E there) in
    win_more g (exchanged v u (left_after A p F)) (left_after A p E)
    (λ w low.
    let back : F (exchange v u w) ≡ E w = ap E (exchange-twice v u w) in
    omega (
      arith,
      ints,
      exchange-same A v u w (sym same.held),
      ap (λ (x : ℤ). p (exchange v u w) (unsigned_abs x)) back,
      exchange-same (λ x. p x (unsigned_abs (E w))) v u w (sym (same.paid (unsigned_abs (E w)))),
    ))
    (win_exchanged g (left_after A p F) v u graph below below' same.twins
    (beyond F (box_exchanged g.size j v u r E below below' (sym same.room) inside) (omega (arith, ints))))

pub pays_closed : (o : Option (List ℕ)) (g : Multigraph) (A : Amounts) (p q : ℕ → ℕ → ℕ) (r c : List ℕ) (j v t : ℕ) →
    IsMultigraph g → v < g.size → g.size ≤ 16 → v < length r → 0 < t → t ≤ slice_index r v → Rises p j → IsShifted p q v t j →
    BoxPays g (minus A (only_at v (pos (p v t)))) q (set r v (slice_index r v - t)) (j - t) →
    IsTwinClosed g A p r v (t - 1) c → MatchOption o (BoxPays g A p c j) (IsUnpaid g A p c j) →
    MatchOption o (BoxPays g A p r j) (IsUnpaid g A p r j)
pays_closed None g A p q r c j v t graph below few placed some roomy rises shift beyond closed pays = λ E inside. ⊎_elim
    (λ (all : AllBelow g.size (λ u. E u ≤ℤ pos (slice_index c u))).
    pays E (record { effective = inside.effective; few = inside.few; within = all }))
    (λ (first : FirstOf g.size (λ u. E u ≤ℤ pos (slice_index c u)) (λ u. pos (slice_index c u) <ℤ E u)).
    let u = first.0 in ⊎_elim
    (λ (same : slice_index c u ≡ slice_index r u). absurd (omega (arith, ints, first.2, inside.within u first.1)))
    (λ (twin : (slice_index c u ≡ t - 1) × IsPaidTwin g A p r v u).
    twin_pays g A p r j v t u graph below first.1 twin.1 (pays_beyond g A p q r j v t below few placed rises shift beyond) E
    inside (omega (arith, ints, first.2, twin.0, some)))
    (closed u first.1))
    (first_or_all g.size (λ u. E u ≤ℤ pos (slice_index c u)) (λ u. pos (slice_index c u) <ℤ E u)
    (λ u _. by_lt_z (pos (slice_index c u)) (E u) (λ (more : pos (slice_index c u) <ℤ E u). inr more)
    (λ (few : E u ≤ℤ pos (slice_index c u)). inl few)))
pays_closed (Some E) g A p q r c j v t graph below few placed some roomy rises shift beyond closed loss = record {
  places = loss.places;
  inside = record {
    effective = loss.inside.effective;
    few = loss.inside.few;
    within = λ u inside. ⊎_elim
        (λ (same : slice_index c u ≡ slice_index r u). omega (arith, ints, loss.inside.within u inside))
        (λ (twin : (slice_index c u ≡ t - 1) × IsPaidTwin g A p r v u).
        omega (arith, ints, loss.inside.within u inside, twin.0, twin.1.room, roomy))
        (closed u inside);
  };
  loses = loss.loses;
}

plain_box : (found : Option (List ℕ)) (g : Multigraph) (A : Amounts) (l r : List ℕ) (j : ℕ) →
    MatchOption found (BoxPays g A (paid None l) r j) (IsUnpaid g A (paid None l) r j) →
    MatchOption found (BoxWins g A r j) (IsBoxLoss g A r j)
plain_box None g A l r j pays = λ E inside.
    win_more g (left_after A (paid None l) E) (minus A E) (λ v below. omega (arith, ints, inside.effective v below))
    (pays E inside)
plain_box (Some E) g A l r j loss = record { places = loss.places; inside = loss.inside; loses = loss.loses }

pub plain_told : (told : Result (Option (List ℕ)) Stopped) (g : Multigraph) (A : Amounts) (l r : List ℕ) (j : ℕ)
    (S : Stopped → Type 0) →
    MatchResult told (λ found. MatchOption found (BoxPays g A (paid None l) r j) (IsUnpaid g A (paid None l) r j)) S →
    MatchResult told (λ found. MatchOption found (BoxWins g A r j) (IsBoxLoss g A r j)) S
plain_told (Ok found) g A l r j S told = plain_box found g A l r j told
plain_told (Err stopped) g A l r j S told = told

pub none_held : (n : ℕ) (E : List ℕ) → slice_index E (n - 1) ≡ 0 →
    ((u : ℕ) → u + 1 < n → slice_index E u ≡ 0) → (u : ℕ) → u < n → slice_index E u ≡ 0
none_held n E held empty u low = ⊎_elim
    (λ (last : u ≡ n - 1). ap (slice_index E) last ∙ held)
    (λ (inner : u ≡ n - 1 → ⊥). empty u (omega arith))
    (cases_eq u (n - 1))

pub class_small : (g : Multigraph) (A : Amounts) (x : Vector) → IsMultigraph g →
    degree g.size A ≤ℤ pos 32000000 → IsInLinearSystem g A x → degree g.size (at x) ≤ℤ pos 32000000
class_small g A x graph small form = omega (arith, ints, form_degree g A x graph form, small)

pub taken_small : (g : Multigraph) (A : Amounts) (x : Vector) (v t : ℕ) → IsMultigraph g → v < g.size →
    degree g.size A ≤ℤ pos 32000000 → IsInLinearSystem g (minus A (only_at v (pos t))) x →
    degree g.size (at x) ≤ℤ pos 32000000
taken_small g A x v t graph below small form =
    class_small g (minus A (only_at v (pos t))) x graph
    (omega (arith, ints, degree-less g.size A (only_at v (pos t)), degree-only_at g.size v (pos t) below, small)) form
