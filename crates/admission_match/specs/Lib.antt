-- Which requests match resources match: requests, rules, selectors, and laws.

pub mod BorderRows
pub mod Laws
pub mod Matching
pub mod Requests
pub mod Rows
pub mod Rules
