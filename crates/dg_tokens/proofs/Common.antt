-- The names that the proofs of this crate cite, passed on from one place. Declares nothing.
pub use Rattle.dg_tokens.specs.Decimals.{BeginsWithDecimal, StartsWithDigit}
pub use Rattle.dg_tokens.specs.Digits.{AreLeadingDigits}
pub use Rattle.dg_tokens.specs.Labels.{AreLabels, IsLabel}
pub use Rattle.dg_tokens.specs.Names.{AreNames, IsName, names_inserted, names_contain, is_byte_between, is_name_byte, name_at}
unfoldable pub use Rattle.dg_tokens.specs.Names.{place_of}
pub use Rattle.dg_tokens.specs.declared.label.Label.{Label}
pub use Rattle.indexmap.specs.IndexSet.{insert_key}
pub use Rattle.std.proofs.Common.{Bool, Err, FitsSigned, IsTrue, List, MatchOption, None, Ok, Option, Result, Some, [], ap, append-nil, append_assoc, arith, below_more, cond, decimal, drop, false, get_or, inl, inr, length, length-append, length-drop, length-take-le, map, negsuc, not, option_map, pos, refl, rules, set, string_bytes, subst, suc, sym, take, take-add, to_z-of_z, true, w64, zero, ℕ, ℤ, ◌&&◌, ◌*◌, ◌++◌, ◌+◌, ◌-◌, ◌<◌, ◌^◌, ◌||◌, ◌∙◌, ◌∷◌, ◌≡◌, ◌≢◌, ◌≤◌}
pub use Rattle.std.proofs.Math.Seq.{take-length}
pub use Rattle.std.proofs.lemmas.Bool.{and_parts, cases_lt, cases_order, cond_both, eqb-true, false_from_ne_true, false≢true, leb-true, lt-ltb, or_cases}
pub use Rattle.std.proofs.lemmas.Bool.Decides.{nat_tests}
pub use Rattle.std.proofs.lemmas.Fmt.{IsAscii-decimal, decimal-digits_value, decimal_digit, decimal_injective, decimal_is_IsNumeral, decimal_nonempty, first_decimal, length-decimal-le, parse-decimal}
pub use Rattle.std.proofs.lemmas.List.{drop-append-le, drop-drop, drop-set, drop_at, get_or-set_other, get_or-set_same, get_or-take, get_or_append_left, get_or_at, length-map, length-take, map-append, take-append-drop, take_at, take_more, take_rest}
pub use Rattle.std.proofs.lemmas.List.Elements.{All-cons, All-head, All-nil, All-push, All-tail}
pub use Rattle.std.proofs.lemmas.List.Quantifiers.{position-Some}
pub use Rattle.std.proofs.lemmas.Option.{get_or_from_slice_get, slice_get-map}
pub use Rattle.std.proofs.lemmas.Simd.{length-put_chunk, put_chunk_is}
pub use Rattle.std.proofs.lemmas.Slice.Eq.{bytes_eq-Decides}
pub use Rattle.std.proofs.lemmas.Str.{IsUtf8-from_ascii, digit_value_digit}
pub use Rattle.std.proofs.lemmas.Str.Ascii.{IsAscii-from_all}
pub use Rattle.std.specs.Fmt.{signed_decimal}
pub use Rattle.std.specs.List.{AllByRecursion, list_all, list_any, prefix_len, slice_index_or}
pub use Rattle.std.specs.Prelude.{All, String, bytes_eq, is_some, leb, nat_lt, position, string_eq, ◌==◌}
pub use Rattle.std.specs.Str.{IsUtf8}
pub use Rattle.std.specs.Str.Parse.{ParsesUnsigned, digits_value, digits_value_after}
pub use Rattle.std.specs.declared.alloc.Global.{Global}
pub use borrow.Rule.Slice.PartMut.{put_mid}
pub use lib.Lanes.{put_chunk}
pub use Rattle.std.proofs.lemmas.Str.Parse.{IsNumeralModel, digit_at, digits_value_short, numerals_by_value, tells_by_index}
pub use Rattle.std.specs.Char.{digit_value}
