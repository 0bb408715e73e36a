-- Pages alone stand for one database.
-- The laws of `undo` end here; what stands beside pages of rows is read off undo pages and slots.
use Rattle.std.proofs.Common.{◌≡◌, ℕ, ◌+◌, Bool, false, Option, Some, None, List, [], ◌∷◌, length, take, drop, refl, sym, ap, subst, ◌∙◌}
use Rattle.std.proofs.Common.{arith}
use Rattle.inno_types.specs.declared.value.Value.{Value}
use Rattle.inno_types.specs.declared.value.Schema.{Schema}
use Rattle.store_api.specs.declared.answers.Version.{Version as Coded}
use Rattle.row_codec.specs.Rows.{IsRecordOf}
use Rattle.row_codec.proofs.Once.{same_version}
use Rattle.row_versions.specs.declared.kept.Kept.{Kept}
use Rattle.row_versions.specs.declared.version.Version.{Version}
use Rattle.row_versions.specs.Chains.{first_seen}
use Rattle.law_stored_rows.specs.Records.{shown, IsCodeOf, LeadTo, IsRecordWith}
use Rattle.law_read_pages.specs.Rows.{is_settled_id, ReadsAs}
use Rattle.law_read_pages.specs.Undo.{HoldsRecord, Points, IsShadow}

-- ---- one record

same_bytes : (page : List ℕ) (at : ℕ) (k l : Kept) → HoldsRecord page at k → HoldsRecord page at l → k.bytes ≡ l.bytes
same_bytes page at k l of_k of_l =
    let keys : length k.key ≡ length l.key = sym of_k.key_long ∙ of_l.key_long in
    let long : length k.bytes ≡ length l.bytes = omega (arith, keys, of_k.long, of_l.long) in
    sym of_k.bytes ∙ ap (λ (n : ℕ). take n (drop (at + 5 + length k.key) page)) long ∙ ap (λ (n : ℕ). take (length l.bytes) (drop (at + 5 + n) page)) keys
    ∙ of_l.bytes

pointed : (pages : ℕ → List ℕ) (pointer : ℕ) (k l : Kept) → Points pages pointer k → Points pages pointer l → k.bytes ≡ l.bytes
pointed pages pointer k l of_k of_l =
    let page : of_k.page ≡ of_l.page = omega (arith, of_k.split, of_l.split, of_k.within, of_l.within) in
    let at : of_k.at ≡ of_l.at = omega (arith, of_k.split, of_l.split, of_k.within, of_l.within) in
    same_bytes (pages of_l.page) of_l.at k l
    (subst (λ (n : ℕ). HoldsRecord (pages of_l.page) n k) at (subst (λ (n : ℕ). HoldsRecord (pages n) of_k.at k) page of_k.holds)) of_l.holds

module _ (pages : ℕ → List ℕ) (schema : Schema) (key : List ℕ) (one two : ℕ → Option Kept) (of_one : IsShadow pages one) (of_two : IsShadow pages two) where
  one_way : (pointer : ℕ) (versions others : List Version) → LeadTo schema key one pointer versions → LeadTo schema key two pointer others → versions ≡ others
  one_way pointer [] [] is also = refl
  one_way pointer [] (other ∷ others) is also = absurd (also.1.leads is)
  one_way pointer (version ∷ versions) [] is also = absurd (is.1.leads also)
  one_way pointer (version ∷ versions) (other ∷ others) is also =
      let bytes : is.0.bytes ≡ also.0.bytes =
      pointed pages pointer is.0 also.0 (of_one pointer is.0 is.1.there) (of_two pointer also.0 also.1.there) in
      let record_is = is.1.code_is.record_is in
      let same : is.0.version ≡ also.0.version =
      same_version schema is.0.version also.0.version key also.0.bytes is.1.code_is.numbers also.1.code_is.numbers
      (subst (IsRecordOf schema is.0.version key) bytes record_is) also.1.code_is.record_is in
      let rest : versions ≡ others =
      one_way also.0.version.pointer versions others (subst (λ (c : Coded). LeadTo schema key one c.pointer versions) same is.2) also.2 in
      cc (is.1.shown_is, also.1.shown_is, same, rest)

  one_record_way : (found : Option (List ℕ)) (versions others : List Version) → IsRecordWith schema key one found versions
      → IsRecordWith schema key two found others → versions ≡ others
  one_record_way None [] [] is also = refl
  one_record_way None (v ∷ vs) others is also = absurd is
  one_record_way None vs (v ∷ others) is also = absurd also
  one_record_way (Some bytes) [] others is also = absurd is
  one_record_way (Some bytes) vs [] is also = absurd also
  one_record_way (Some bytes) (version ∷ versions) (other ∷ others) is also =
      let same : is.0 ≡ also.0 = same_version schema is.0 also.0 key bytes is.1.numbers also.1.numbers is.1.record_is also.1.record_is in
      let rest : versions ≡ others =
      one_way also.0.pointer versions others (subst (λ (c : Coded). LeadTo schema key one c.pointer versions) same is.3) also.3 in
      cc (is.2, also.2, same, rest)

  pub reads_alone_one_way : (open_id : ℕ → Bool) (bytes : Option (List ℕ)) (row other : Option (List Value)) → ReadsAs schema key one open_id bytes row
      → ReadsAs schema key two open_id bytes other → row ≡ other
  reads_alone_one_way open_id bytes row other a b =
      sym a.first ∙ ap (first_seen (is_settled_id open_id)) (one_record_way bytes a.versions b.versions a.leads b.leads) ∙ b.first

-- ---- cleaning

pub cleaned : (schema : Schema) (key bytes : List ℕ) (kept : ℕ → Option Kept) (open_id : ℕ → Bool) (row : List Value) (clean : Coded)
    → open_id 0 ≡ false → IsCodeOf schema key bytes clean → clean.marked ≡ false → clean.writer ≡ 0 → clean.pointer ≡ 0 → clean.row ≡ row
    → ReadsAs schema key kept open_id (Some bytes) (Some row)
cleaned schema key bytes kept open_id row clean none code unmarked nobody nowhere row_is = record {
  versions = shown clean ∷ [];
  leads = (clean, code, refl, nowhere);
  first = rw (nobody, none, unmarked, row_is) refl;
}
