-- Pieces of the trials, one after another.
--   piece_first    the first piece starts at number 0
--   piece_within   no piece starts past all trials
--   piece_ends     a piece ends where the next one starts, and not before its own start
--   wins_both      trials that follow one another and all win
--   loss_before    the first loss of trials is the first loss of them and later ones
--   loss_after     after trials that all win, the first loss of later ones is the first loss of all
--   found_after    after trials that all win, what is found in later ones is found in all
--   piece_wins     if all trials from one on win, so do those of a piece that it starts
--   piece_loses    the first loss from one on is that of the piece, if it comes before the next piece
--   piece_passed   if it does not, all trials of the piece win
--   of_all         what is found in all trials by their numbers is found in all
use Rattle.dg_rank.proofs.Common.{◌≡◌, ℕ, ◌+◌, ◌*◌, ◌/◌, ◌<◌, ◌≤◌, List, arith, sym, ⊎_elim, mul-le-mul_right, ints, Option, Some, None, MatchOption, cases_lt, get_or_past, le-div, div-mul-le_self, div-le_of_le-mul, Multigraph, Amounts, IsLexBefore, minus, win_more, IsWinnable, IsTrial, IsTrialBefore, AnyTrial, HasTrials, amounts_of_trial, WinsWithout, IsTrialFrom, TrialsWinFrom, IsFirstLossFrom, TrialsWinIf, IsFirstTrialIf, IsNotBefore, AllTrialsWin, IsFirstLossIn, piece_start, Search}
use Rattle.dg_rank.specs.Numbering.{trial_count, nth_trial}
use Rattle.dg_rank.proofs.Numbering.{numbered, limits_count, limits_trial}
use Rattle.dg_rank.proofs.CountedOnce.{lower_number}
use Rattle.dg_rank.proofs.Starts.{from_trial, trial_from}
use Rattle.dg_rank.proofs.TrialLists.{listed, listed-amounts, listed-trial}

pub piece_first : (s : Search) → piece_start s 0 ≡ 0
piece_first s = omega arith

pub piece_within : (s : Search) (j : ℕ) → j ≤ s.workers → piece_start s j ≤ s.count
piece_within s j few =
    let most : j * s.count ≤ s.workers * s.count = mul-le-mul_right s.count few in
    div-le_of_le-mul s.workers most

pub piece_ends : (s : Search) (j : ℕ) → 0 < s.workers → piece_start s j ≤ piece_start s (j + 1)
piece_ends s j some =
    let low : j * s.count / s.workers * s.workers ≤ j * s.count = div-mul-le_self (j * s.count) s.workers in
    le-div (j * s.count / s.workers) ((j + 1) * s.count) s.workers some (omega arith)

pub wins_both : (g : Multigraph) (D : Amounts) (k i m j : ℕ) → AllTrialsWin g D k i m → AllTrialsWin g D k m j
    → AllTrialsWin g D k i j
wins_both g D k i m j first second l from to =
    ⊎_elim
    (λ (before : l < m). first l from before)
    (λ (after : m ≤ l). second l after to)
    (cases_lt l m)

pub loss_before : (g : Multigraph) (D : Amounts) (k i m j : ℕ) (E : List ℕ) → m ≤ j → IsFirstLossIn g D k i m E →
    IsFirstLossIn g D k i j E
loss_before g D k i m j E end loss = record {
  number = loss.number;
  from = loss.from;
  to = omega arith;
  trial = loss.trial;
  loses = loss.loses;
  first = loss.first;
}

pub loss_after : (g : Multigraph) (D : Amounts) (k i m j : ℕ) (E : List ℕ) → i ≤ m → AllTrialsWin g D k i m →
    IsFirstLossIn g D k m j E →
    IsFirstLossIn g D k i j E
loss_after g D k i m j E start wins loss = record {
  number = loss.number;
  from = omega arith;
  to = loss.to;
  trial = loss.trial;
  loses = loss.loses;
  first = wins_both g D k i m loss.number wins loss.first;
}

pub found_after : (g : Multigraph) (D : Amounts) (k i m j : ℕ) (found : Option (List ℕ)) → i ≤ m → AllTrialsWin g D k i m →
    MatchOption found (AllTrialsWin g D k m j) (IsFirstLossIn g D k m j) →
    MatchOption found (AllTrialsWin g D k i j) (IsFirstLossIn g D k i j)
found_after g D k i m j (Some E) start wins loss = loss_after g D k i m j E start wins loss
found_after g D k i m j None start wins later = wins_both g D k i m j wins later

-- the order of trials and of divisors
before_list : (n : ℕ) (E F : List ℕ) → IsLexBefore n (amounts_of_trial E) (amounts_of_trial F) → IsTrialBefore E F
before_list n E F before = record {
  place = before.place;
  same = λ u low. omega (arith, ints, before.same u low);
  smaller = omega (arith, ints, before.smaller);
}

before_amounts : (n k : ℕ) (E F : List ℕ) → IsTrial n k F → IsTrialBefore E F →
    IsLexBefore n (amounts_of_trial E) (amounts_of_trial F)
before_amounts n k E F trial before = record {
  place = before.place;
  inside = ⊎_elim
      (λ (low : before.place < n). low)
      (λ (past : n ≤ before.place). absurd (omega
      (arith, before.smaller, get_or_past F before.place 0 (omega (arith, trial.places)))))
      (cases_lt before.place n);
  same = λ u low. omega (arith, ints, before.same u low);
  smaller = omega (arith, ints, before.smaller);
}

module _ {n k c : ℕ} (limits : HasTrials n k c) where
  lower : (i j : ℕ) → i < c → IsTrialBefore (nth_trial n k i) (nth_trial n k j) → i < j
  lower i j low before =
      lower_number n k AnyTrial (trial_count n k) (nth_trial n k) i j (numbered n k) (omega (arith, limits_count n k c limits))
      before

  earlier : (i j : ℕ) → i < j → j < c →
      IsLexBefore n (amounts_of_trial (nth_trial n k i)) (amounts_of_trial (nth_trial n k j))
  earlier i j less low =
      before_amounts n k (nth_trial n k i) (nth_trial n k j) (limits_trial n k c j limits low)
      ((numbered n k).ascending i j less (omega (arith, limits_count n k c limits)))

  number_of : (E : List ℕ) → IsTrial n k E → (e : ℕ) × (e < c) × (nth_trial n k e ≡ E)
  number_of E trial =
      let (e, low, is) = (numbered n k).all E trial tt in
      (e, omega (arith, limits_count n k c limits), is)

module _ (g : Multigraph) (D : Amounts) (k c i : ℕ) (limits : HasTrials g.size k c) (start : i < c) where
  from : (m : ℕ) → m < c → IsTrialFrom g.size k 0 (amounts_of_trial (nth_trial g.size k m))
  from m low = from_trial g.size k (nth_trial g.size k m) (limits_trial g.size k c m limits low)

  late : (m : ℕ) → i ≤ m → m < c → IsNotBefore g.size (nth_trial g.size k i) (amounts_of_trial (nth_trial g.size k m))
  late m after to before = omega
      (arith, lower limits m i to (before_list g.size (nth_trial g.size k m) (nth_trial g.size k i) before))

  pub piece_wins : (j : ℕ) → j ≤ c → TrialsWinIf g D k 0 (IsNotBefore g.size (nth_trial g.size k i)) → AllTrialsWin g D k i j
  piece_wins j end wins m after to = wins _ (from m (omega arith)) (late m after (omega arith))

  won_before : (e m : ℕ) → e < c →
      IsFirstTrialIf g D k 0 (IsNotBefore g.size (nth_trial g.size k i)) (nth_trial g.size k e) → i ≤ m → m < e →
      WinsWithout g D (nth_trial g.size k m)
  won_before e m low loss after to =
      loss.first _ (from m (omega arith)) (late m after (omega arith)) (earlier limits m e to low)

  pub piece_loses : (j : ℕ) (E : List ℕ) → j ≤ c →
      IsFirstTrialIf g D k 0 (IsNotBefore g.size (nth_trial g.size k i)) E →
      (j < c → IsTrialBefore E (nth_trial g.size k j)) → IsFirstLossIn g D k i j E
  piece_loses j E end loss before =
      let (e, low, is) = number_of limits E (trial_from g.size k 0 E loss.places loss.from) in
      record {
        number = e;
        from = ⊎_elim
            (λ (less : e < i). absurd (loss.among (rw (← is) (earlier limits e i less start))))
            (λ (enough : i ≤ e). enough)
            (cases_lt e i);
        to = ⊎_elim
            (λ (inner : j < c). lower limits e j low (rw is (before inner)))
            (λ (all : c ≤ j). omega arith)
            (cases_lt j c);
        trial = sym is;
        loses = loss.loses;
        first = λ m after to. won_before e m low (rw is loss) after to;
      }

  pub piece_passed : (j : ℕ) (E : List ℕ) → j < c → IsFirstTrialIf g D k 0 (IsNotBefore g.size (nth_trial g.size k i)) E →
      (¬ IsTrialBefore E (nth_trial g.size k j)) → AllTrialsWin g D k i j
  piece_passed j E end loss past m after to =
      let (e, low, is) = number_of limits E (trial_from g.size k 0 E loss.places loss.from) in
      won_before e m low (rw is loss) after (⊎_elim
      (λ (less : e < j). absurd (past (before_list g.size E (nth_trial g.size k j) (rw (← is) (earlier limits e j less end)))))
      (λ (enough : j ≤ e). omega arith)
      (cases_lt e j))

pub of_all : (g : Multigraph) (D : Amounts) (k c : ℕ) (found : Option (List ℕ)) → HasTrials g.size k c →
    MatchOption found (AllTrialsWin g D k 0 c) (IsFirstLossIn g D k 0 c) →
    MatchOption found (TrialsWinFrom g D k 0) (IsFirstLossFrom g D k 0)
of_all g D k c found limits = told found where
  listed_wins : (F : Amounts) → IsTrialFrom g.size k 0 F → (m : ℕ) → nth_trial g.size k m ≡ listed g.size F →
      WinsWithout g D (nth_trial g.size k m) → IsWinnable g (minus D F)
  listed_wins F from m is win = win_more g (minus D (amounts_of_trial (nth_trial g.size k m))) (minus D F)
      (λ v inside. rw is (omega (arith, ints, listed-amounts g.size F v from.effective inside))) win

  told : (x : Option (List ℕ)) → MatchOption x (AllTrialsWin g D k 0 c) (IsFirstLossIn g D k 0 c) →
      MatchOption x (TrialsWinFrom g D k 0) (IsFirstLossFrom g D k 0)
  told None wins = λ F from.
      let (m, low, is) = number_of limits (listed g.size F) (listed-trial g.size k F from.effective from.of_degree) in
      listed_wins F from m is (wins m (omega arith) low)
  told (Some E) loss =
      let trial : IsTrial g.size k E = rw loss.trial (limits_trial g.size k c loss.number limits loss.to) in
      record {
        places = trial.places;
        from = from_trial g.size k E trial;
        loses = loss.loses;
        first = λ F from before.
            let (m, low, is) = number_of limits (listed g.size F) (listed-trial g.size k F from.effective from.of_degree) in
            listed_wins F from m is (loss.first m (omega arith) (lower limits m loss.number low (rw (is, ← loss.trial) (record {
              place = before.place;
              same = λ u less.
                  let inner : u < g.size = omega (arith, before.inside) in
                  omega (arith, ints, before.same u less, listed-amounts g.size F u from.effective inner);
              smaller = omega (
                arith,
                ints,
                before.smaller,
                listed-amounts g.size F before.place from.effective before.inside,
              );
            }))));
      }
