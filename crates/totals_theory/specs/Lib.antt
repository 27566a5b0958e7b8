-- What a reader must believe of the totals over lists (document 02 (e)): what is counted, and what is claimed of it. Also what the
-- contracts cite.
pub mod Totals
pub mod Claims
pub mod Examples
