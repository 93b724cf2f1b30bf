-- A line is refused with the fault of one of its words. The result is the error that `?` hands on.
--   unnamed       a word names no vertex, or one twice
--   misnumbered   all names are good, and a word has a number that is none of its kind
--   no_script     the one word of a script is none
use Rattle.dg_lines.proofs.Common.{◌≡◌, ℕ, List, [], ◌∷◌, Result, refl, ap, sym, subst, MatchResult, IsErrAnd, err_from_is_err_and, Command, Keyword, LineFault, Seat, Word, Form, Name, Number, HaveDistinctNames, AreNumerals, kinds_on_line, IsWellFormed, Means, AreRefusedWords, spelling, keyword_kinds, IsBadScript}
use Rattle.std.specs.Prelude.{unwrap_or}
use Rattle.dg_lines.specs.declared.command.Keyword.TheVariants as of
use Rattle.dg_lines.proofs.Keywords.{wanted_of}

abbrev IsRead : List (List ℕ) → Keyword → List (List ℕ) → Result Command LineFault → Type 0
IsRead names k rest result = MatchResult result
    (λ command. Means names command (spelling k) rest) (λ fault. AreRefusedWords names fault (spelling k) rest)

module _ (names : List (List ℕ)) (k : Keyword) (rest : List (List ℕ)) (formed : IsWellFormed (spelling k) rest)
    (result : Result Command LineFault) (fault : LineFault) (handed : IsErrAnd result (λ e. e ≡ fault)) where
  own : keyword_kinds k ≡ kinds_on_line (spelling k)
  own = sym (ap (λ o. unwrap_or o []) (wanted_of k))

  refused : AreRefusedWords names fault (spelling k) rest → IsRead names k rest result
  refused bad = let told = err_from_is_err_and result handed in rw (told.1, told.2) bad

  pub unnamed : fault ≡ Name → (HaveDistinctNames names (keyword_kinds k) rest → ⊥)
      → IsRead names k rest result
  unnamed same never =
      refused (rw same (formed, subst (λ ks. HaveDistinctNames names ks rest → ⊥) own never))

  pub misnumbered : fault ≡ Number → HaveDistinctNames names (keyword_kinds k) rest →
      (AreNumerals (keyword_kinds k) rest → ⊥)
      → IsRead names k rest result
  misnumbered same named never =
      refused (rw same (
        formed,
        subst (λ ks. HaveDistinctNames names ks rest) own named,
        subst (λ ks. AreNumerals ks rest → ⊥) own never,
      ))

pub no_script : (names : List (List ℕ)) (word : List ℕ) → IsWellFormed (spelling of.Script) (word ∷ [])
    → (result : Result Command LineFault) (fault : LineFault) → IsErrAnd result (λ e. e ≡ fault)
    → IsBadScript names fault word → IsRead names of.Script (word ∷ []) result
no_script names word formed result Seat handed bad = absurd bad
no_script names word formed result Word handed bad = absurd bad
no_script names word formed result Form handed bad = absurd bad
no_script names word formed result Name handed bad =
    unnamed names of.Script (word ∷ []) formed result Name handed refl (λ named. bad named.0)
no_script names word formed result Number handed bad =
    misnumbered names of.Script (word ∷ []) formed result Number handed refl (bad.0, tt) (λ all. bad.1 all.0)
